use Rattle.bpf_num.proofs.ConstantLaws.{constant_valid, constant_has}
use Rattle.bpf_num.proofs.laws.constant_has.Goals as goal

pub returns : goal.returns
returns c = λ x fits. (constant_valid x fits, constant_has x fits)
