use Rattle.bpf_cert.specs.View.{function_view}
use Rattle.bpf_safety.specs.Flaw.{function_flaws}
use Rattle.bpf_check.proofs.LoopLimits.{function_limited}
use Rattle.bpf_check.proofs.LeastLemmas.{least_more, least_of_all}
use Rattle.bpf_check.proofs.shape.label_flaw.Goals as goal

pub flaw_of_function-flaw-requires : goal.flaw_of_function-flaw-requires
flaw_of_function-flaw-requires g c = function_limited c.args.certificate.now c.functions-functions.result.now c.loop-function.function-index _ c.valid.ensures c.functions-functions.ensures c.loop-function-test.true c.function-item.is

pub loop-function-preserved : goal.loop-function-preserved
loop-function-preserved g c =
    least_more (function_flaws (g.C.Code.program c.args.program.now) c.args.certificate.now) function_view c.functions-functions.result.now c.loop-function.function-index _ _ c.loop-function-test.true c.function-item.is
    (c.lesser-least.ensures _ _ c.loop-function.invariant c.flaw_of_function-flaw.ensures)

pub returns : goal.returns
returns g c =
    least_of_all (function_flaws (g.C.Code.program c.args.program.now) c.args.certificate.now) function_view c.functions-functions.result.now _ c.loop-function.function-index _ c.loop-function-test.false
    c.functions-functions.ensures c.loop-function.invariant
