use Rattle.std.proofs.Common.{◌≡◌, ◌≤◌, drop, length}
use Rattle.bpf_safety.specs.Flow.{with_tags}
use Rattle.bpf_check.proofs.arrival.set_label_state.Given as goal

abbrev pub invariant-terms : goal.invariant-terms
invariant-terms l = record {
  tagged : l.state ≡ with_tags l.j (drop l.j l.terms) l.initial.state;
  within : l.j ≤ length l.terms;
}

abbrev pub decreases-terms : goal.decreases-terms
decreases-terms l = l.j
