use Rattle.std.proofs.Common.{◌≡◌, ◌+◌, ◌*◌, ◌^◌}
use Rattle.bpf_cert.specs.View.{label_view}
use Rattle.bpf_safety.specs.Budget.{budget, greatest_budget}
use Rattle.bpf_check.specs.code.Slack.{IsWithin}
use Rattle.bpf_check.proofs.BudgetLemmas.{rest_sum, greatest_part}
use Rattle.bpf_check.proofs.budget.greatest_budget.Given as goal

abbrev pub invariant-loop-term : goal.invariant-loop-term
invariant-loop-term l = record {
  value : greatest_budget (budget (label_view l.label)) l.state ≡ rest_sum (greatest_part l.state) l.sum l.term-index l.terms;
  small : IsWithin (2 ^ 40 + l.term-index * 2 ^ 90) l.sum;
}
