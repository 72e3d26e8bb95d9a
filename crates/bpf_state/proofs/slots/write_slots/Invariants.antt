use Rattle.std.specs.Prelude.{All}
use Rattle.bpf_state.specs.declared.known.SlotState.TheVariants.{Bytes}
use Rattle.bpf_state.specs.State.{IsSlot}
use Rattle.bpf_state.specs.Access.{touched_bytes}
use Rattle.bpf_state.specs.Transfer.{slot_written}
use Rattle.bpf_state.proofs.SlotLemmas.{ChangedTo}
use Rattle.bpf_state.proofs.slots.write_slots.Given as goal

abbrev pub invariant-loop-i : goal.invariant-loop-i
invariant-loop-i l = ChangedTo (Bytes 0) (λ k held. slot_written (touched_bytes l.reach k) held) l.first l.i l.initial.slots l.slots × All IsSlot l.slots
