use Rattle.std.proofs.Common.{rules}
use Rattle.bpf_infer.proofs.inferrer.beside_deep.Goals as goal

pub returns-in_default-clause-most : goal.returns-in_default-clause-most
returns-in_default-clause-most g c = search rules
