use Rattle.std.proofs.Common.{◌≡◌, drop}
use Rattle.std.specs.List.{list_all}
use Rattle.bpf_cert.specs.Numeral.{is_decimal_digit}
use Rattle.bpf_cert.proofs.decimal.are_digits.Given as goal

abbrev pub invariant-loop-byte : goal.invariant-loop-byte
invariant-loop-byte l = list_all is_decimal_digit (drop l.byte-index l.text) ≡ list_all is_decimal_digit l.text
