use Rattle.bpf_classic.proofs.PartLemmas.{Lacks}
use Rattle.bpf_classic.proofs.border.cut.Given as goal

abbrev pub invariant-loop-at : goal.invariant-loop-at
invariant-loop-at l = Lacks l.border l.text l.at
