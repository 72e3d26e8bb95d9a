use Rattle.std.specs.Prelude.{All}
use Rattle.bpf_state.specs.declared.known.SlotState.TheVariants.{Bytes}
use Rattle.bpf_state.specs.State.{IsSlot}
use Rattle.bpf_state.specs.Transfer.{slot_maybe_written}
use Rattle.bpf_state.proofs.SlotLemmas.{ChangedTo}
use Rattle.bpf_state.proofs.slots.maybe_write_slots.Given as goal

abbrev pub invariant-loop-i : goal.invariant-loop-i
invariant-loop-i l = ChangedTo (Bytes 0) (λ k held. slot_maybe_written held) l.first l.i l.initial.slots l.slots × All IsSlot l.slots
