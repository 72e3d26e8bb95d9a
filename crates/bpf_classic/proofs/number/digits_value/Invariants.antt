use Rattle.std.proofs.Common.{◌≡◌, drop}
use Rattle.bpf_classic.specs.Text.{digits_from}
use Rattle.bpf_classic.proofs.number.digits_value.Given as goal

-- what is left goes on from the digits so far
abbrev pub invariant-digits : goal.invariant-digits
invariant-digits l = digits_from l.base 0 l.digits ≡ digits_from l.base l.value (drop l.byte-index l.digits)
