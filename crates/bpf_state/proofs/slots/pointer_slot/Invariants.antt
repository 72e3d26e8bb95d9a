use Rattle.bpf_state.specs.Access.{is_pointer_slot}
use Rattle.bpf_state.proofs.SlotLemmas.{NoneTo}
use Rattle.bpf_state.proofs.slots.pointer_slot.Given as goal

abbrev pub invariant-loop-i : goal.invariant-loop-i
invariant-loop-i l = NoneTo (λ k held. is_pointer_slot held) l.first l.i l.slots
