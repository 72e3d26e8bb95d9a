use Rattle.bpf_num.proofs.NumberLaws.{num_neg_keeps}
use Rattle.bpf_num.proofs.laws.neg_keeps.Goals as goal

pub returns : goal.returns
returns c = λ width a x member. num_neg_keeps width a x member.0 member.1
