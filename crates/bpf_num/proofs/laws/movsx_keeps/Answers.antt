use Rattle.bpf_num.proofs.NumberLaws.{num_movsx_keeps}
use Rattle.bpf_num.proofs.laws.movsx_keeps.Goals as goal

pub returns : goal.returns
returns c = λ width from a x member. num_movsx_keeps width from a x member.0 member.1
