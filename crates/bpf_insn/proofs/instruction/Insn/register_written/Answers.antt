use Rattle.std.proofs.Common.{rules}
use Rattle.bpf_insn.proofs.instruction.Insn.register_written.Goals as goal

pub returns-in-Atomic : goal.returns-in-Atomic
returns-in-Atomic c = search rules
