use Rattle.std.proofs.Common.{rules}
use Rattle.bpf_state.proofs.entries.Entries.put_into.Goals as goal

pub put_entries-requires-clause-blank : goal.put_entries-requires-clause-blank
put_entries-requires-clause-blank c = search rules
