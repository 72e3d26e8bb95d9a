use Rattle.std.proofs.Common.{◌≡◌, true, take}
use Rattle.std.specs.List.{list_all}
use Rattle.bpf_cert.specs.View.{function_view}
use Rattle.bpf_check.specs.LabelIndex.{holds_labels}
use Rattle.bpf_check.proofs.index.labels_are_in_place.Given as goal

abbrev pub invariant-loop-function : goal.invariant-loop-function
invariant-loop-function l = list_all (λ f. holds_labels l.certificate (function_view f)) (take l.function-index l.functions) ≡ true
