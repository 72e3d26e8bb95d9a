use Rattle.std.proofs.Common.{rules}
use Rattle.bpf_infer.proofs.inferrer.infer.Goals as goal

pub returns-in-Ok-clause-most : goal.returns-in-Ok-clause-most
returns-in-Ok-clause-most c = search rules
