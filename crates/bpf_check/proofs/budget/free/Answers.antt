use Rattle.std.proofs.Common.{sym, arith}
use Rattle.std.specs.Int.{w128, cast_signed}
use Rattle.bpf_cert.specs.View.{label_view}
use Rattle.bpf_check.specs.code.Slack.{free_term}
use Rattle.bpf_check.proofs.BudgetLemmas.{limited_here, few_here, next_sum}
use Rattle.bpf_check.proofs.budget.free.Goals as goal

pub greatest_free-requires : goal.greatest_free-requires
greatest_free-requires c = limited_here (label_view c.args.new.now) c.as_slice-terms.result.now c.loop-term.term-index _ c.requires c.as_slice-terms.ensures.value c.loop-term-test.true

pub loop-term-preserved : goal.loop-term-preserved
loop-term-preserved c =
    let next = next_sum (free_term c.args.edge.now) _ 0 c.loop-term.term-index c.as_slice-terms.result.now _ (cast_signed w128 c.loop-term.sum-bits) c.in-Some.part (omega arith) (few_here (label_view c.args.new.now) c.as_slice-terms.result.now c.requires c.as_slice-terms.ensures.value) c.loop-term-test.true c.loop-term.invariant.value c.loop-term.invariant.small (sym c.in-Some.ensures.value) c.in-Some.ensures.small in
    record { value = next.value; small = next.small }
