use Rattle.bpf_num.proofs.TightenLaws.{tighten_keeps}
use Rattle.bpf_num.proofs.num.Num.tighten.Goals as goal

pub returns-clause-keeps : goal.returns-clause-keeps
returns-clause-keeps c x has = rw c.narrowed.ensures (tighten_keeps c.args.self x c.valid.ensures has)
