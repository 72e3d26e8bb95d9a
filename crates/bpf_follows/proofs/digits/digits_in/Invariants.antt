use Rattle.std.proofs.Common.{◌≡◌, drop}
use Rattle.bpf_follows.specs.code.Reading.{digits_in}
use Rattle.bpf_follows.proofs.digits.digits_in.Given as goal

abbrev pub invariant-loop-at : goal.invariant-loop-at
invariant-loop-at l = digits_in l.number (drop l.at l.text) ≡ digits_in 0 l.text
