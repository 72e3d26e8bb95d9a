use Rattle.std.proofs.Common.{rules}
use Rattle.bpf_semantics.proofs.numbers.sign_extend_from.Goals as goal

pub returns : goal.returns
returns c = search rules
