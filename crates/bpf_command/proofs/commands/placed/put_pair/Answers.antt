use Rattle.bpf_command.proofs.StandingLemmas.{pair_fails}
use Rattle.bpf_command.proofs.commands.placed.put_pair.Goals as goal

pub returns-in-Err-clause-err : goal.returns-in-Err-clause-err
returns-in-Err-clause-err g c =
    pair_fails g.P.Places.creates g.P.Places.ends g.P.Writer.Write.contents c.args.asked c.args.made.now c.program-program.result.now c.args.places.now c.put_both.new.places c.in-Err.failure
    c.program-program.ensures c.in-Err.ensures.err
