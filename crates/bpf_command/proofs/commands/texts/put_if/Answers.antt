use Rattle.bpf_answers.specs.Made.{making}
use Rattle.bpf_command.proofs.TextsLemmas.{one_fails, one_put}
use Rattle.bpf_command.proofs.commands.texts.put_if.Goals as goal

pub returns-in-Some-clause-ok : goal.returns-in-Some-clause-ok
returns-in-Some-clause-ok g c = one_put c.put.result (making g.P.Places.creates g.P.Places.ends g.P.Writer.Write.contents) c.args.places.now c.args.name c.in-Some.name _ c.put.new.places c.in-Some.is c.put.ensures.ok

pub returns-in-Some-clause-err : goal.returns-in-Some-clause-err
returns-in-Some-clause-err g c = one_fails c.put.result (making g.P.Places.creates g.P.Places.ends g.P.Writer.Write.contents) c.args.places.now c.args.name c.in-Some.name _ c.put.new.places c.in-Some.is c.put.ensures.err
