use Rattle.std.proofs.Common.{rules, IfErr}
use Rattle.std.specs.String.{string_bytes}
use Rattle.bpf_answers.specs.Made.{making}
use Rattle.bpf_command.specs.Texts.{TextsFail, named}
use Rattle.bpf_command.proofs.TextsLemmas.{all_put, first_fails, second_fails}
use Rattle.bpf_command.proofs.commands.texts.put_beside.Goals as goal

pub returns-in_err-put_if-clause-err : goal.returns-in_err-put_if-clause-err
returns-in_err-put_if-clause-err g c =
    let puts = making g.P.Places.creates g.P.Places.ends g.P.Writer.Write.contents in
    let notes = named c.args.asked.notes c.args.beside.now.notes.items in
    let fails : IfErr c.from_residual.result (TextsFail puts c.args.places.now notes c.put_if.new.places) = search rules in
    first_fails c.from_residual.result puts c.args.places.now notes (named c.args.asked.changes (string_bytes c.args.beside.now.changes)) c.put_if.new.places fails

pub returns-clause-ok : goal.returns-clause-ok
returns-clause-ok g c =
    let puts = making g.P.Places.creates g.P.Places.ends g.P.Writer.Write.contents in
    all_put c.put_if-2.result puts c.args.places.now (named c.args.asked.notes c.args.beside.now.notes.items) (named c.args.asked.changes (string_bytes c.args.beside.now.changes)) c.put_if.new.places c.put_if-2.new.places
    c.in_ok-put_if.ensures.ok.1 c.put_if-2.ensures.ok

pub returns-clause-err : goal.returns-clause-err
returns-clause-err g c =
    let puts = making g.P.Places.creates g.P.Places.ends g.P.Writer.Write.contents in
    second_fails c.put_if-2.result puts c.args.places.now (named c.args.asked.notes c.args.beside.now.notes.items) (named c.args.asked.changes (string_bytes c.args.beside.now.changes)) c.put_if.new.places
    c.put_if-2.new.places c.in_ok-put_if.ensures.ok.1 c.put_if-2.ensures.err
