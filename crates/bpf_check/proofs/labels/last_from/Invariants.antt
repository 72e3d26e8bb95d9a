use Rattle.std.proofs.Common.{◌≡◌, ℕ, ◌<◌, ◌≤◌, true, None, length}
use Rattle.bpf_check.specs.code.Search.{rises, last_up_to}
use Rattle.bpf_check.proofs.labels.last_from.Given as goal

abbrev pub invariant-rest : goal.invariant-rest
invariant-rest g l = record {
  rises : rises g.T.Begins.slot l.rest ≡ true;
  same : last_up_to g.T.Begins.slot None l.slot l.items ≡ last_up_to g.T.Begins.slot None l.slot l.rest;
  until : (n : ℕ) → l.slot ≤ n → n < l.until → last_up_to g.T.Begins.slot None n l.items ≡ last_up_to g.T.Begins.slot None n l.rest;
}

abbrev pub decreases-rest : goal.decreases-rest
decreases-rest g l = length l.rest
