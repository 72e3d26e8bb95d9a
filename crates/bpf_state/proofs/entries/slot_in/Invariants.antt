use Rattle.std.proofs.Common.{◌≡◌, take}
use Rattle.bpf_state.specs.declared.known.SlotState.TheVariants.{Bytes}
use Rattle.bpf_state.specs.State.{slot}
use Rattle.bpf_state.specs.code.Entries.{state_of}
use Rattle.bpf_state.proofs.entries.slot_in.Given as goal

abbrev pub invariant-loop-entry : goal.invariant-loop-entry
invariant-loop-entry l = slot (state_of (take l.entry-index l.entries)) l.k ≡ Bytes 0
