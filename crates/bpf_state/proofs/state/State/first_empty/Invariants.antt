use Rattle.bpf_state.specs.Places.{is_empty_at}
use Rattle.bpf_state.proofs.PlaceLemmas.{NoneTo}
use Rattle.bpf_state.proofs.state.State.first_empty.Given as goal

abbrev pub invariant-places : goal.invariant-places
invariant-places l = NoneTo (is_empty_at l.self) l.number
