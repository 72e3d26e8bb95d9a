use Rattle.std.proofs.Common.{rules}
use Rattle.bpf_state.proofs.condition.Condition.numbered.Goals as goal

pub returns-in-6-clause-number : goal.returns-in-6-clause-number
returns-in-6-clause-number c = search rules
