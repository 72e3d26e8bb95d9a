use Rattle.std.proofs.Common.{◌≡◌, ◌*◌, ◌^◌, pos, ◌+ℤ◌, drop}
use Rattle.bpf_safety.specs.Budget.{shares}
use Rattle.bpf_check.specs.code.Slack.{IsWithin}
use Rattle.bpf_check.proofs.budget.shares.Given as goal

abbrev pub invariant-loop-term : goal.invariant-loop-term
invariant-loop-term l = record {
  value : shares l.j (pos l.x) l.edge l.terms ≡ l.sum +ℤ shares l.j (pos l.x) l.edge (drop l.term-index l.terms);
  small : IsWithin (l.term-index * 2 ^ 87) l.sum;
}
