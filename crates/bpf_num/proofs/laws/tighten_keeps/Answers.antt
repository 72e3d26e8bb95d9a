use Rattle.bpf_num.proofs.TightenLaws.{tighten_keeps}
use Rattle.bpf_num.proofs.laws.tighten_keeps.Goals as goal

pub returns : goal.returns
returns c = λ n x member. tighten_keeps n x member.0 member.1
