use Rattle.bpf_num.proofs.NumberLaws.{num_alu_keeps}
use Rattle.bpf_num.proofs.laws.alu_keeps.Goals as goal

pub returns : goal.returns
returns c = λ width op a b x y left right. num_alu_keeps width op a b x y left.0 right.0 left.1 right.1
