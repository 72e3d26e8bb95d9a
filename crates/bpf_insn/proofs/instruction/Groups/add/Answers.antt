use Rattle.std.proofs.Common.{rules}
use Rattle.bpf_insn.proofs.instruction.Groups.add.Goals as goal

pub returns-in-Divmul : goal.returns-in-Divmul
returns-in-Divmul c = search rules
