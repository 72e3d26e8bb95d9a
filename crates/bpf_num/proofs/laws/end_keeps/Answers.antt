use Rattle.bpf_num.proofs.NumberLaws.{num_end_keeps}
use Rattle.bpf_num.proofs.laws.end_keeps.Goals as goal

pub returns : goal.returns
returns c = λ order kind size a x member. num_end_keeps order kind size a x member.0 member.1
