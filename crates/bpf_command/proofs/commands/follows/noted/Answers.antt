use Rattle.std.proofs.Common.{rules}
use Rattle.bpf_answers.specs.Notes.{LoadsNotes}
use Rattle.bpf_command.proofs.JudgedLemmas.{says_so}
use Rattle.bpf_command.proofs.FollowedLemmas.{noted_fails, noted_says}
use Rattle.bpf_command.specs.Followed.{NotedSays}
use Rattle.bpf_command.proofs.commands.follows.noted.Goals as goal

pub returns-in-Ok-clause-ok : goal.returns-in-Ok-clause-ok
returns-in-Ok-clause-ok g c =
    let at = g.P.Places.opens in
    let asked = c.args.asked in
    let r = c.in-Ok.noted in
    let loads : LoadsNotes at c.args.places.now asked.notes.now c.notes_at.new.places r.runs r.notes.items = search rules in
    says_so c.beside.result _ (NotedSays at c.args.places.now asked c.beside.new.places c.args.old.now c.args.new.now)
    (noted_says at c.args.places.now asked c.notes_at.new.places c.beside.new.places c.args.old.now c.args.new.now r.runs r.notes.items loads) c.beside.ensures.ok

pub returns-in-Ok-clause-err : goal.returns-in-Ok-clause-err
returns-in-Ok-clause-err g c =
    let at = g.P.Places.opens in
    let asked = c.args.asked in
    let r = c.in-Ok.noted in
    let loads : LoadsNotes at c.args.places.now asked.notes.now c.notes_at.new.places r.runs r.notes.items = search rules in
    noted_fails c.beside.result at c.args.places.now asked c.notes_at.new.places c.beside.new.places r.runs r.notes.items loads c.beside.ensures.err
