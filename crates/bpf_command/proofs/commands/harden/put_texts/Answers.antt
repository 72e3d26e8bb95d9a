use Rattle.std.proofs.Common.{rules, IfErr}
use Rattle.std.specs.String.{string_bytes}
use Rattle.bpf_answers.specs.Made.{making}
use Rattle.bpf_command.specs.Hardened.{found_text}
use Rattle.bpf_command.specs.Texts.{TextsFail, named, notes_and_changes}
use Rattle.bpf_command.proofs.TextsLemmas.{all_put, first_fails, second_fails}
use Rattle.bpf_command.proofs.commands.harden.put_texts.Goals as goal

pub returns-in_err-put_found-clause-err : goal.returns-in_err-put_found-clause-err
returns-in_err-put_found-clause-err g c =
    let puts = making g.P.Places.creates g.P.Places.ends g.P.Writer.Write.contents in
    let found = named c.args.asked.certificate (found_text c.args.hardened.now.certificate) in
    let beside = notes_and_changes c.args.asked c.args.beside.now.notes.items (string_bytes c.args.beside.now.changes) in
    let fails : IfErr c.from_residual.result (TextsFail puts c.args.places.now found c.put_found.new.places) = search rules in
    first_fails c.from_residual.result puts c.args.places.now found beside c.put_found.new.places fails

pub returns-clause-ok : goal.returns-clause-ok
returns-clause-ok g c =
    let puts = making g.P.Places.creates g.P.Places.ends g.P.Writer.Write.contents in
    let found = named c.args.asked.certificate (found_text c.args.hardened.now.certificate) in
    let beside = notes_and_changes c.args.asked c.args.beside.now.notes.items (string_bytes c.args.beside.now.changes) in
    all_put c.put_beside.result puts c.args.places.now found beside c.put_found.new.places c.put_beside.new.places c.in_ok-put_found.ensures.ok.1 c.put_beside.ensures.ok

pub returns-clause-err : goal.returns-clause-err
returns-clause-err g c =
    let puts = making g.P.Places.creates g.P.Places.ends g.P.Writer.Write.contents in
    let found = named c.args.asked.certificate (found_text c.args.hardened.now.certificate) in
    let beside = notes_and_changes c.args.asked c.args.beside.now.notes.items (string_bytes c.args.beside.now.changes) in
    second_fails c.put_beside.result puts c.args.places.now found beside c.put_found.new.places c.put_beside.new.places c.in_ok-put_found.ensures.ok.1 c.put_beside.ensures.err
