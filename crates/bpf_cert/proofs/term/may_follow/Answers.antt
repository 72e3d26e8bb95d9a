use Rattle.bpf_cert.proofs.TermLemmas.{follows}
use Rattle.bpf_cert.proofs.term.may_follow.Goals as goal

pub returns-in-Some : goal.returns-in-Some
returns-in-Some c = λ form plain. follows c.args.term c.in-Some.last c.args.last c.is_before.result c.is_plain_term.result c.in-Some.is c.if-not-is_plain_term.false c.is_plain_term.ensures c.is_before.ensures form plain
