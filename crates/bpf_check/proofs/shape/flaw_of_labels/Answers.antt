use Rattle.std.proofs.Common.{map, ap}
use Rattle.bpf_cert.specs.View.{label_view, function_view}
use Rattle.bpf_check.specs.code.Standing.{label_flaws}
use Rattle.bpf_check.proofs.LoopLimits.{label_limited}
use Rattle.bpf_check.proofs.LeastLemmas.{least_more, least_of_all}
use Rattle.bpf_check.proofs.shape.flaw_of_labels.Goals as goal

pub judge_label-flaw-requires : goal.judge_label-flaw-requires
judge_label-flaw-requires g c = label_limited c.args.function.now c.as_slice-labels.result.now c.loop-label.label-index _ c.requires c.as_slice-labels.ensures.value c.loop-label-test.true c.label-item.is

pub loop-label-preserved : goal.loop-label-preserved
loop-label-preserved g c =
    least_more (label_flaws (g.C.Code.program c.args.program.now) c.args.certificate.now (function_view c.args.function.now)) label_view c.as_slice-labels.result.now c.loop-label.label-index _ _ c.loop-label-test.true c.label-item.is
    (c.lesser-least.ensures _ _ c.loop-label.invariant c.judge_label-flaw.ensures)

pub returns : goal.returns
returns g c =
    least_of_all (label_flaws (g.C.Code.program c.args.program.now) c.args.certificate.now (function_view c.args.function.now)) label_view c.as_slice-labels.result.now _ c.loop-label.label-index _ c.loop-label-test.false
    (ap (map label_view) c.as_slice-labels.ensures.value) c.loop-label.invariant
