use Rattle.std.proofs.Common.{◌≡◌, map, take}
use Rattle.bpf_cert.specs.View.{label_view}
use Rattle.bpf_cert.proofs.migration.same_labels.Given as goal

abbrev pub invariant-loop-label : goal.invariant-loop-label
invariant-loop-label l = map label_view l.copies.items ≡ map label_view (take l.label-index l.labels)
