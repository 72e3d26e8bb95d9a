use Rattle.std.proofs.Common.{◌≡◌, true, take}
use Rattle.std.specs.List.{list_all}
use Rattle.bpf_cert.specs.View.{function_view}
use Rattle.bpf_cert.specs.Limits.{is_canonical_function}
use Rattle.bpf_cert.proofs.limits.are_canonical_functions.Given as goal

abbrev pub invariant-loop-function : goal.invariant-loop-function
invariant-loop-function l = list_all (λ x. is_canonical_function (function_view x)) (take l.function-index l.functions) ≡ true
