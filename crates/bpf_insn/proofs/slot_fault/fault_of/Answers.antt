use Rattle.std.proofs.Common.{rules}
use Rattle.bpf_insn.proofs.slot_fault.fault_of.Goals as goal

pub returns-then-bytes-lt16 : goal.returns-then-bytes-lt16
returns-then-bytes-lt16 c = search rules
