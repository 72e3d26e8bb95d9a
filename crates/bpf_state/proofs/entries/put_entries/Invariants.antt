use Rattle.std.proofs.Common.{◌≡◌, take}
use Rattle.bpf_state.specs.code.Entries.{state_of}
use Rattle.bpf_state.proofs.entries.put_entries.Given as goal

abbrev pub invariant-loop-entry : goal.invariant-loop-entry
invariant-loop-entry l = l.state ≡ state_of (take l.entry-index l.entries)
