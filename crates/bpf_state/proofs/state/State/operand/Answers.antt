use Rattle.std.proofs.Common.{rules}
use Rattle.bpf_state.proofs.state.State.operand.Goals as goal

pub returns-in-Imm-clause-value : goal.returns-in-Imm-clause-value
returns-in-Imm-clause-value c = search rules
