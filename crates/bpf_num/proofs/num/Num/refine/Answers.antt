use Rattle.bpf_num.proofs.RefineLaws.{refine_keeps}
use Rattle.bpf_num.proofs.num.Num.refine.Goals as goal

pub returns-clause-keeps : goal.returns-clause-keeps
returns-clause-keeps c x y has has' test =
    rw c.refined.ensures (refine_keeps c.args.cond c.args.width c.args.taken c.args.a c.args.b x y c.valid.ensures c.valid-2.ensures has has' test)
