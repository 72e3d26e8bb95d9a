use Rattle.std.proofs.Common.{◌≡◌, ◌+◌, ◌*◌, ◌^◌}
use Rattle.bpf_cert.specs.View.{label_view}
use Rattle.bpf_check.specs.code.Slack.{at_label, kept_of, kept_part, IsWithin}
use Rattle.bpf_check.proofs.BudgetLemmas.{rest_sum}
use Rattle.bpf_check.proofs.budget.kept.Given as goal

abbrev pub invariant-loop-j : goal.invariant-loop-j
invariant-loop-j l = record {
  value : kept_of (label_view l.old) l.edge (label_view l.new) ≡ rest_sum (kept_part l.edge (label_view l.new) (at_label (label_view l.old))) l.sum l.j l.terms;
  small : IsWithin (0 + l.j * 2 ^ 90) l.sum;
}
