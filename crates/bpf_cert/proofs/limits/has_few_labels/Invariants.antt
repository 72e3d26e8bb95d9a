use Rattle.std.proofs.Common.{◌≡◌, ◌+◌, take}
use Rattle.std.specs.Prelude.{sum_by}
use Rattle.bpf_cert.specs.View.{function_view}
use Rattle.bpf_cert.specs.Limits.{label_count}
use Rattle.bpf_cert.proofs.limits.has_few_labels.Given as goal

abbrev pub invariant-loop-function : goal.invariant-loop-function
invariant-loop-function l = sum_by (λ f. label_count (function_view f)) (take l.function-index l.functions) + l.room ≡ 65536
