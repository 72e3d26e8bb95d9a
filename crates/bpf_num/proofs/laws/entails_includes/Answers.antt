use Rattle.bpf_num.proofs.OrderLaws.{entails_includes}
use Rattle.bpf_num.proofs.laws.entails_includes.Goals as goal

pub returns : goal.returns
returns c = λ a b x ok test has. entails_includes a b x ok test has
