use Rattle.std.proofs.Common.{rules}
use Rattle.bpf_infer_base.proofs.error.InferError.number.Goals as goal

pub returns-in-Unstable : goal.returns-in-Unstable
returns-in-Unstable c = search rules
