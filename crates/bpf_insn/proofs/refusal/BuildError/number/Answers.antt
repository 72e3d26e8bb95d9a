use Rattle.std.proofs.Common.{rules}
use Rattle.bpf_insn.proofs.refusal.BuildError.number.Goals as goal

pub returns-in-Target : goal.returns-in-Target
returns-in-Target c = search rules
