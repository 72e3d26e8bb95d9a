use Rattle.std.proofs.Common.{rules}
use Rattle.bpf_infer_base.proofs.error.InferError.slot.Goals as goal

pub returns-in-Memory : goal.returns-in-Memory
returns-in-Memory c = search rules
