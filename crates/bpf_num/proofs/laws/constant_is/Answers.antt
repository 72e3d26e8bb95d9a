use Rattle.bpf_num.proofs.ConstantLaws.{constant_is}
use Rattle.bpf_num.proofs.laws.constant_is.Goals as goal

pub returns : goal.returns
returns c = λ n x member known. constant_is n x member.0 member.1 known
