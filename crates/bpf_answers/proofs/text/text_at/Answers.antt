use Rattle.std.proofs.Common.{refl}
use Rattle.bpf_answers.proofs.TextLemmas.{quiet_by, unread_by}
use Rattle.bpf_answers.proofs.text.text_at.Goals as goal

pub returns-clause-err : goal.returns-clause-err
returns-clause-err g c = unread_by c.text_or.result g.P.Places.opens c.args.places.now c.args.name.now c.text_or.new.places c.args.name refl c.text_or.ensures.err

pub returns-clause-quiet : goal.returns-clause-quiet
returns-clause-quiet g c = quiet_by c.text_or.result _ tt c.text_or.ensures.quiet
