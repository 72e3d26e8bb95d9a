use Rattle.bpf_num.proofs.NumberLaws.{num_movsx_keeps}
use Rattle.bpf_num.proofs.num.Num.sign_extend.Goals as goal

pub returns-clause-keeps : goal.returns-clause-keeps
returns-clause-keeps c x has =
    rw c.extended_to.ensures (num_movsx_keeps c.args.width c.args.from c.args.self x c.valid.ensures has)
