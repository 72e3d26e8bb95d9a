use Rattle.std.proofs.Common.{◌≡◌, take}
use Rattle.bpf_state.specs.State.{blank, register}
use Rattle.bpf_state.specs.code.Entries.{state_of}
use Rattle.bpf_state.proofs.entries.register_in.Given as goal

abbrev pub invariant-loop-entry : goal.invariant-loop-entry
invariant-loop-entry l = register (state_of (take l.entry-index l.entries)) l.r ≡ register blank l.r
