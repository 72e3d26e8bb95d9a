use Rattle.bpf_num.proofs.NumberLaws.{num_neg_keeps}
use Rattle.bpf_num.proofs.num.Num.neg.Goals as goal

pub returns-clause-keeps : goal.returns-clause-keeps
returns-clause-keeps c x has =
    rw (c.alu.ensures.exact, c.constant.ensures) (num_neg_keeps c.args.width c.args.self x c.valid.ensures has)
