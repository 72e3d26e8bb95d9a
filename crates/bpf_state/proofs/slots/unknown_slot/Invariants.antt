use Rattle.std.specs.Prelude.{not}
use Rattle.bpf_state.specs.Access.{are_known_bytes, touched_bytes}
use Rattle.bpf_state.proofs.SlotLemmas.{NoneTo}
use Rattle.bpf_state.proofs.slots.unknown_slot.Given as goal

abbrev pub invariant-loop-i : goal.invariant-loop-i
invariant-loop-i l = NoneTo (λ k held. not (are_known_bytes (touched_bytes l.reach k) held)) l.first l.i l.slots
