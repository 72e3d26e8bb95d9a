use Rattle.std.proofs.Common.{rules}
use Rattle.bpf_state.proofs.state.State.slot.Goals as goal

pub returns-clause-value : goal.returns-clause-value
returns-clause-value c = search rules
