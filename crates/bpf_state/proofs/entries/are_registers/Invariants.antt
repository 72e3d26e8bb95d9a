use Rattle.std.proofs.Common.{◌≡◌, take, replicate}
use Rattle.bpf_state.specs.declared.known.SlotState.TheVariants.{Bytes}
use Rattle.bpf_state.specs.code.Entries.{state_of}
use Rattle.bpf_state.proofs.entries.are_registers.Given as goal

abbrev pub invariant-loop-entry : goal.invariant-loop-entry
invariant-loop-entry l = (state_of (take l.entry-index l.entries)).slots ≡ replicate 64 (Bytes 0)
