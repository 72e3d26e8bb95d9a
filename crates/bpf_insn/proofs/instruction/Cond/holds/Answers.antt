use Rattle.std.proofs.Common.{rules}
use Rattle.bpf_insn.proofs.instruction.Cond.holds.Goals as goal

pub returns-in-W64 : goal.returns-in-W64
returns-in-W64 c = search rules
