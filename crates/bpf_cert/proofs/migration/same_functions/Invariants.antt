use Rattle.std.proofs.Common.{◌≡◌, map, take}
use Rattle.bpf_cert.specs.View.{function_view}
use Rattle.bpf_cert.proofs.migration.same_functions.Given as goal

abbrev pub invariant-loop-function : goal.invariant-loop-function
invariant-loop-function l = map function_view l.copies.items ≡ map function_view (take l.function-index l.functions)
