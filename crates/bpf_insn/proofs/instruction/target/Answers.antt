use Rattle.std.proofs.Common.{rules}
use Rattle.bpf_insn.proofs.instruction.target.Goals as goal

pub returns-then-to-lt0 : goal.returns-then-to-lt0
returns-then-to-lt0 c = search rules

pub returns-else-to-lt0 : goal.returns-else-to-lt0
returns-else-to-lt0 c = search rules
