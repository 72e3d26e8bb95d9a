use Rattle.std.proofs.Common.{rules}
use Rattle.bpf_insn.proofs.refusal.DecodeError.slot.Goals as goal

pub returns-in-Length : goal.returns-in-Length
returns-in-Length c = search rules
