use Rattle.std.proofs.Common.{rules}
use Rattle.bpf_state.proofs.condition.Condition.number.Goals as goal

pub returns-in-FallsOff : goal.returns-in-FallsOff
returns-in-FallsOff c = search rules
