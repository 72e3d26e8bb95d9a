use Rattle.bpf_num.proofs.RefineLaws.{refine_keeps}
use Rattle.bpf_num.proofs.laws.refine_keeps.Goals as goal

pub returns : goal.returns
returns c = λ c width taken a b x y left right test. refine_keeps c width taken a b x y left.0 right.0 left.1 right.1 test
