use Rattle.std.proofs.Common.{map, take}
use Rattle.std.specs.Prelude.{flat_map}
use Rattle.bpf_cert.specs.View.{label_view, function_view}
use Rattle.bpf_check.specs.code.Least.{IsLeastRefusal}
use Rattle.bpf_check.specs.code.Standing.{label_flaws}
use Rattle.bpf_check.proofs.shape.flaw_of_labels.Given as goal

abbrev pub invariant-loop-label : goal.invariant-loop-label
invariant-loop-label g l =
    IsLeastRefusal (flat_map (label_flaws (g.C.Code.program l.program) l.certificate (function_view l.function)) (map label_view (take l.label-index l.labels))) l.least
