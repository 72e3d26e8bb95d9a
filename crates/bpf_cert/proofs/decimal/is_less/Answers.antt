use Rattle.bpf_cert.proofs.NumberLemmas.{by_length, by_digit, by_none}
use Rattle.bpf_cert.proofs.decimal.is_less.Goals as goal

pub returns-then-left-right : goal.returns-then-left-right
returns-then-left-right c = λ p q. by_length c.args.left.now c.args.right.now p.0 p.1 q.0 q.1 c.if-left-right.true

pub returns-then-digit-right : goal.returns-then-digit-right
returns-then-digit-right c = λ p q. by_digit c.args.left.now c.args.right.now c.loop-at.at p.0 q.0 c.if-left-right.false c.loop-at-test.true c.loop-at.invariant c.if-digit-right.true

pub returns : goal.returns
returns c = λ p q. by_none c.args.left.now c.args.right.now c.loop-at.at c.if-left-right.false c.loop-at-test.false c.loop-at.invariant
