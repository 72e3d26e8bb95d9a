use Rattle.std.proofs.Common.{rules}
use Rattle.bpf_insn.proofs.instruction.EndBits.swap.Goals as goal

pub returns-after-reverses : goal.returns-after-reverses
returns-after-reverses c = search rules

pub returns-after-reverses-2 : goal.returns-after-reverses-2
returns-after-reverses-2 c = search rules

pub returns-else-reverses-3 : goal.returns-else-reverses-3
returns-else-reverses-3 c = search rules
