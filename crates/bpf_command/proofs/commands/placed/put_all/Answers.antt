use Rattle.std.proofs.Common.{◌≡◌, Some, rules}
use Rattle.bpf_command.proofs.StandingLemmas.{beside_unput}
use Rattle.bpf_command.proofs.commands.placed.put_all.Goals as goal

pub returns-in-Ok-clause-err : goal.returns-in-Ok-clause-err
returns-in-Ok-clause-err g c =
    let some : c.args.asked.listing ≡ Some c.in-Some.name = search rules in
    beside_unput c.put_beside.result g.P.Places.creates g.P.Places.ends g.P.Writer.Write.contents c.args.places.now c.args.asked c.args.raws.now c.args.made.now c.in-Some.name c.in-Ok.lines.items
    c.put_beside.new.places some c.in-Ok.ensures c.put_beside.ensures.err
