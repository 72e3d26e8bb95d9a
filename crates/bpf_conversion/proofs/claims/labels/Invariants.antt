use Rattle.bpf_conversion.proofs.LabelLemmas.{LabelsTo}
use Rattle.bpf_conversion.proofs.claims.labels.Given as goal

-- the labels of the slots in front
abbrev pub invariant-loop-slot : goal.invariant-loop-slot
invariant-loop-slot l = LabelsTo l.converted l.templates l.slot l.labels.items
