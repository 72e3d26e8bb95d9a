use Rattle.std.proofs.Common.{◌≡◌, true, take}
use Rattle.std.specs.List.{list_all}
use Rattle.bpf_cert.specs.View.{function_view}
use Rattle.bpf_cert.specs.Limits.{is_limited_function}
use Rattle.bpf_cert.proofs.limits.are_limited_functions.Given as goal

abbrev pub invariant-loop-function : goal.invariant-loop-function
invariant-loop-function l = list_all (λ x. is_limited_function (function_view x)) (take l.function-index l.functions) ≡ true
