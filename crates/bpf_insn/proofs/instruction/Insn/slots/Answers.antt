use Rattle.std.proofs.Common.{rules}
use Rattle.bpf_insn.proofs.instruction.Insn.slots.Goals as goal

pub returns-in-LoadImm64 : goal.returns-in-LoadImm64
returns-in-LoadImm64 c = search rules
