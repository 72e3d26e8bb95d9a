use Rattle.bpf_cert.proofs.NumberLemmas.{SameBefore}
use Rattle.bpf_cert.proofs.decimal.is_less.Given as goal

abbrev pub invariant-loop-at : goal.invariant-loop-at
invariant-loop-at l = SameBefore l.left l.right l.at
