use Rattle.std.proofs.Common.{◌≡◌, true, take}
use Rattle.std.specs.List.{list_all}
use Rattle.bpf_cert.specs.View.{label_view}
use Rattle.bpf_cert.specs.Limits.{is_limited_label}
use Rattle.bpf_cert.proofs.limits.are_limited_labels.Given as goal

abbrev pub invariant-loop-label : goal.invariant-loop-label
invariant-loop-label l = list_all (λ x. is_limited_label (label_view x)) (take l.label-index l.labels) ≡ true
