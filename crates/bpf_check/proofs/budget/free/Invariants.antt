use Rattle.std.proofs.Common.{◌≡◌, ◌+◌, ◌*◌, ◌^◌}
use Rattle.bpf_cert.specs.View.{label_view}
use Rattle.bpf_check.specs.code.Slack.{free_of, free_term, IsWithin}
use Rattle.bpf_check.proofs.BudgetLemmas.{rest_sum}
use Rattle.bpf_check.proofs.budget.free.Given as goal

abbrev pub invariant-loop-term : goal.invariant-loop-term
invariant-loop-term l = record {
  value : free_of l.edge (label_view l.new) ≡ rest_sum (free_term l.edge) l.sum l.term-index l.terms;
  small : IsWithin (0 + l.term-index * 2 ^ 90) l.sum;
}
