use Rattle.std.proofs.Common.{rules}
use Rattle.bpf_insn.proofs.instruction.Insn.access.Goals as goal

pub returns-in-Store : goal.returns-in-Store
returns-in-Store c = search rules
