use Rattle.std.proofs.Common.{rules}
use Rattle.bpf_state.proofs.known.RegState.number.Goals as goal

pub returns-in-Num : goal.returns-in-Num
returns-in-Num c = search rules
