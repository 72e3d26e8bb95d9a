use Rattle.std.proofs.Common.{rules}
use Rattle.bpf_insn.proofs.refusal.DecodeError.number.Goals as goal

pub returns-in-Read : goal.returns-in-Read
returns-in-Read c = search rules
