use Rattle.std.proofs.Common.{◌≡◌, ◌+◌, ◌*◌, ◌^◌}
use Rattle.bpf_cert.specs.View.{label_view}
use Rattle.bpf_safety.specs.Budget.{budget, least_budget}
use Rattle.bpf_check.specs.code.Slack.{at_label, IsWithin}
use Rattle.bpf_check.proofs.BudgetLemmas.{rest_sum, least_part}
use Rattle.bpf_check.proofs.budget.least_budget.Given as goal

abbrev pub invariant-loop-term : goal.invariant-loop-term
invariant-loop-term l = record {
  value : least_budget (budget (label_view l.label)) (at_label (label_view l.label)) ≡ rest_sum (least_part (at_label (label_view l.label))) l.sum l.term-index l.terms;
  small : IsWithin (2 ^ 40 + l.term-index * 2 ^ 90) l.sum;
}
