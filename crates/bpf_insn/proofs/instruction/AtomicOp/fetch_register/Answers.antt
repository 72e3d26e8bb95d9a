use Rattle.std.proofs.Common.{rules}
use Rattle.bpf_insn.proofs.instruction.AtomicOp.fetch_register.Goals as goal

pub returns-in-CmpXchg : goal.returns-in-CmpXchg
returns-in-CmpXchg c = search rules
