use Rattle.std.specs.Prelude.{not}
use Rattle.bpf_state.specs.Places.{entails_at}
use Rattle.bpf_state.proofs.PlaceLemmas.{NoneTo}
use Rattle.bpf_state.proofs.state.State.first_lost.Given as goal

abbrev pub invariant-places : goal.invariant-places
invariant-places l = NoneTo (λ p. not (entails_at l.self l.other p)) l.number
