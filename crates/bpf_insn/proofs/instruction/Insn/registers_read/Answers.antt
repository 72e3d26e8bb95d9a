use Rattle.std.proofs.Common.{rules}
use Rattle.bpf_insn.proofs.instruction.Insn.registers_read.Goals as goal

pub returns-in-Atomic-default-CmpXchg-default-default-default : goal.returns-in-Atomic-default-CmpXchg-default-default-default
returns-in-Atomic-default-CmpXchg-default-default-default c = search rules
