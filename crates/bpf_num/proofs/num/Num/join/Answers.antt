use Rattle.bpf_num.proofs.OrderLaws.{join_left, join_right}
use Rattle.bpf_num.proofs.num.Num.join.Goals as goal

pub returns-clause-left : goal.returns-clause-left
returns-clause-left c x has = rw c.joined.ensures (join_left c.args.self c.args.other x c.valid.ensures c.valid-2.ensures has)

pub returns-clause-right : goal.returns-clause-right
returns-clause-right c x has = rw c.joined.ensures (join_right c.args.self c.args.other x c.valid.ensures c.valid-2.ensures has)
