use Rattle.std.proofs.Common.{rules}
use Rattle.bpf_insn.proofs.instruction.SignBits.extend.Goals as goal

pub returns-in-W32 : goal.returns-in-W32
returns-in-W32 c = search rules
