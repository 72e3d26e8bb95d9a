use Rattle.std.proofs.Common.{rules}
use Rattle.bpf_state.proofs.entries.Entries.held.Goals as goal

pub returns-in-Register : goal.returns-in-Register
returns-in-Register c = search rules
