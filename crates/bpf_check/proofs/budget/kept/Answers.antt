use Rattle.std.proofs.Common.{arith}
use Rattle.std.specs.Int.{w128, cast_signed}
use Rattle.bpf_cert.specs.View.{label_view}
use Rattle.bpf_check.specs.code.Slack.{at_label, kept_part}
use Rattle.bpf_check.proofs.BudgetLemmas.{limited_here, few_here, next_sum, kept_here}
use Rattle.bpf_check.proofs.budget.kept.Goals as goal

pub bounds_at_label-requires-clause-limited : goal.bounds_at_label-requires-clause-limited
bounds_at_label-requires-clause-limited c = limited_here (label_view c.args.old.now) c.as_slice-terms.result.now c.loop-j.j _ c.requires.old c.as_slice-terms.ensures.value c.loop-j-test.true

pub least_left-sum-requires-clause-limited : goal.least_left-sum-requires-clause-limited
least_left-sum-requires-clause-limited c = limited_here (label_view c.args.old.now) c.as_slice-terms.result.now c.loop-j.j _ c.requires.old c.as_slice-terms.ensures.value c.loop-j-test.true

pub loop-j-preserved : goal.loop-j-preserved
loop-j-preserved c =
    let next = next_sum (kept_part c.args.edge.now (label_view c.args.new.now) (at_label (label_view c.args.old.now))) _ 0 c.loop-j.j c.as_slice-terms.result.now _ (cast_signed w128 c.loop-j.sum-bits) c.least_left-sum.result (omega arith) (few_here (label_view c.args.old.now) c.as_slice-terms.result.now c.requires.old c.as_slice-terms.ensures.value) c.loop-j-test.true c.loop-j.invariant.value c.loop-j.invariant.small (kept_here c.args.edge.now (label_view c.args.new.now) (at_label (label_view c.args.old.now)) c.loop-j.j _ c.in-Some.range _ _ c.in-Some.ensures c.least_left-sum.ensures.value c.as_slice-taken.ensures.value) c.least_left-sum.ensures.small in
    record { value = next.value; small = next.small }
