use Rattle.std.proofs.Common.{◌≡◌, ◌^◌, take, min}
use Rattle.bpf_cert.specs.Numeral.{number}
use Rattle.bpf_cert.proofs.decimal.number.Given as goal

abbrev pub invariant-loop-digit : goal.invariant-loop-digit
invariant-loop-digit l = l.number ≡ min (number (take l.digit-index l.digits)) (2 ^ 64)
