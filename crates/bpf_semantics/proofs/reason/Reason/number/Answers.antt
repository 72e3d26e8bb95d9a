use Rattle.std.proofs.Common.{rules}
use Rattle.bpf_semantics.proofs.reason.Reason.number.Goals as goal

pub returns-in-ContextWrite : goal.returns-in-ContextWrite
returns-in-ContextWrite c = search rules
