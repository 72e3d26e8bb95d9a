use Rattle.std.proofs.Common.{map, take}
use Rattle.std.specs.Prelude.{flat_map}
use Rattle.bpf_cert.specs.View.{function_view}
use Rattle.bpf_safety.specs.Flaw.{function_flaws}
use Rattle.bpf_check.specs.code.Least.{IsLeastRefusal}
use Rattle.bpf_check.proofs.shape.label_flaw.Given as goal

abbrev pub invariant-loop-function : goal.invariant-loop-function
invariant-loop-function g l =
    IsLeastRefusal (flat_map (function_flaws (g.C.Code.program l.program) l.certificate) (map function_view (take l.function-index l.functions))) l.least
