use Rattle.std.proofs.Common.{Some, sym, ap, ◌∙◌, ◌^◌, arith}
use Rattle.std.specs.Prelude.{option_map}
use Rattle.std.specs.Int.{w128, cast_signed}
use Rattle.bpf_cert.specs.View.{label_view}
use Rattle.bpf_safety.specs.Budget.{term_value, least_at_ends}
use Rattle.bpf_check.proofs.BudgetLemmas.{limited_here, few_here, least_part, next_sum}
use Rattle.bpf_check.specs.code.Slack.{at_label}
use Rattle.bpf_check.proofs.budget.least_budget.Goals as goal

pub bounds_at_label-requires-clause-limited : goal.bounds_at_label-requires-clause-limited
bounds_at_label-requires-clause-limited c = limited_here (label_view c.args.label.now) c.as_slice-terms.result.now c.loop-term.term-index _ c.requires.limited c.as_slice-terms.ensures.value c.loop-term-test.true

pub least_at_ends-sum-requires : goal.least_at_ends-sum-requires
least_at_ends-sum-requires c = limited_here (label_view c.args.label.now) c.as_slice-terms.result.now c.loop-term.term-index _ c.requires.limited c.as_slice-terms.ensures.value c.loop-term-test.true

pub loop-term-preserved : goal.loop-term-preserved
loop-term-preserved c =
    let next = next_sum (least_part (at_label (label_view c.args.label.now))) _ (2 ^ 40) c.loop-term.term-index c.as_slice-terms.result.now _ (cast_signed w128 c.loop-term.sum-bits) c.least_at_ends-sum.result (omega arith) (few_here (label_view c.args.label.now) c.as_slice-terms.result.now c.requires.limited c.as_slice-terms.ensures.value) c.loop-term-test.true c.loop-term.invariant.value c.loop-term.invariant.small (ap (option_map (least_at_ends (term_value _))) (sym c.in-Some.ensures) ∙ ap (λ z. Some z) (sym c.least_at_ends-sum.ensures.value)) c.least_at_ends-sum.ensures.small in
    record { value = next.value; small = next.small }
