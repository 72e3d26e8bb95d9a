use Rattle.std.proofs.Common.{rules}
use Rattle.bpf_insn.proofs.instruction.Reg.is_frame_pointer.Goals as goal

pub returns : goal.returns
returns c = search rules
