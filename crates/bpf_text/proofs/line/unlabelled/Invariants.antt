use Rattle.std.proofs.Common.{length}
use Rattle.bpf_text.proofs.LabelLemmas.{Passes}
use Rattle.bpf_text.proofs.line.unlabelled.Given as goal

abbrev pub invariant-labels : goal.invariant-labels
invariant-labels l = Passes l.line l.rest

abbrev pub decreases-labels : goal.decreases-labels
decreases-labels l = length l.rest
