use Rattle.bpf_num.proofs.NumberLaws.{num_end_keeps}
use Rattle.bpf_num.proofs.num.Num.swap.Goals as goal

pub returns-clause-keeps : goal.returns-clause-keeps
returns-clause-keeps c x has =
    rw c.swapped.ensures (num_end_keeps c.args.order c.args.kind c.args.size c.args.self x c.valid.ensures has)
