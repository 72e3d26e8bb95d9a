use Rattle.bpf_num.proofs.OrderLaws.{join_left, join_right}
use Rattle.bpf_num.proofs.laws.join_has.Goals as goal

pub returns : goal.returns
returns c = λ a b x ok ok'. (λ has. join_left a b x ok ok' has, λ has. join_right a b x ok ok' has)
