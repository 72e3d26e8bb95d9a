use Rattle.std.proofs.Common.{rules}
use Rattle.bpf_num.proofs.unsigned.UnsignedWordDomain.contains.Goals as goal

pub returns-then-self-number : goal.returns-then-self-number
returns-then-self-number c = search rules
