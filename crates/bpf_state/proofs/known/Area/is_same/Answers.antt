use Rattle.std.proofs.Common.{rules}
use Rattle.bpf_state.proofs.known.Area.is_same.Goals as goal

pub returns-in-Context : goal.returns-in-Context
returns-in-Context c = search rules
