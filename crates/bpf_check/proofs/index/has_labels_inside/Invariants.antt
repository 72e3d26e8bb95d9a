use Rattle.std.proofs.Common.{◌≡◌, true, not, take}
use Rattle.std.specs.List.{list_all}
use Rattle.bpf_cert.specs.View.{function_view, label_view}
use Rattle.bpf_safety.specs.Flaw.{is_outside}
use Rattle.bpf_check.proofs.index.has_labels_inside.Given as goal

abbrev pub invariant-loop-label : goal.invariant-loop-label
invariant-loop-label l = list_all (λ x. not (is_outside l.certificate (function_view l.function) (label_view x))) (take l.label-index l.labels) ≡ true
