use Rattle.std.proofs.Common.{rules, IfErr, inr}
use Rattle.std.proofs.lemmas.Result.{err_from_is_err_and}
use Rattle.std.specs.String.{string_bytes}
use Rattle.bpf_command.specs.CommandLine.{hardening_of}
use Rattle.bpf_answers.specs.Both.{putting}
use Rattle.bpf_answers.specs.Loaded.{LoadsImage}
use Rattle.bpf_command.specs.Certified.{NotAllPut, made_of, notes_of, told_of}
use Rattle.bpf_command.specs.Texts.{notes_and_changes}
use Rattle.bpf_command.proofs.CertifiedLemmas.{certifies_of, puts_fail, puts_left, stands_not, stands_so}
use Rattle.bpf_command.proofs.commands.certify.assess.Goals as goal

pub returns-in-Err-found_for-clause-ok : goal.returns-in-Err-found_for-clause-ok
returns-in-Err-found_for-clause-ok g c =
    let asked = c.args.asked in
    let image : LoadsImage g.P.Places.opens asked.order c.args.places.now asked.input.now c.program_at.new.places c.in-Ok.program = search rules in
    (c.in-Ok.program, c.length_of-length.result, image, c.length_of-length.ensures.given, c.in-Err-found_for.ensures.err)

pub returns-in_err-put_all-clause-err : goal.returns-in_err-put_all-clause-err
returns-in_err-put_all-clause-err g c =
    let o = g.P.Places.opens in
    let w = putting g.P.Places.creates g.P.Places.ends g.P.Writer.Write.contents in
    let asked = c.args.asked in
    let d = c.in-Ok-found_for.found.certified in
    let beside = c.in-Ok-found_for.found.beside in
    let length = c.length_of-length.result in
    let image : LoadsImage o asked.order c.args.places.now asked.input.now c.program_at.new.places c.in-Ok.program = search rules in
    let certifies = certifies_of o c.args.places.now asked c.program_at.new.places c.in-Ok.program length d c.length_of-length.ensures.given image c.in-Ok-found_for.ensures.ok c.in-Ok-found_for.ensures.shown in
    let fails : IfErr c.from_residual-in_err-put_all.result (NotAllPut w c.program_at.new.places asked c.made_of-made.result.now d.certificate (notes_and_changes (hardening_of asked) beside.notes.items (string_bytes beside.changes))
    c.put_all.new.places)
    = let p = err_from_is_err_and c.from_residual-in_err-put_all.result c.from_residual-in_err-put_all.ensures.1 in rw (p.1, p.2) c.in_err-put_all.ensures.err in
    puts_fail c.from_residual-in_err-put_all.result o w c.args.places.now asked c.put_all.new.places
    (stands_not c.from_residual-in_err-put_all.result o w c.args.places.now asked c.program_at.new.places c.put_all.new.places c.made_of-made.result.now (made_of c.in-Ok.program d) d.certificate (notes_of d.rewritten)
    (told_of asked length d) beside.notes.items (string_bytes beside.changes) certifies c.made_of-made.ensures c.in-Ok-found_for.ensures.notes fails)

pub returns-in_err-put_all-clause-names : goal.returns-in_err-put_all-clause-names
returns-in_err-put_all-clause-names g c =
    let o = g.P.Places.opens in
    let w = putting g.P.Places.creates g.P.Places.ends g.P.Writer.Write.contents in
    let asked = c.args.asked in
    let d = c.in-Ok-found_for.found.certified in
    let beside = c.in-Ok-found_for.found.beside in
    let length = c.length_of-length.result in
    let image : LoadsImage o asked.order c.args.places.now asked.input.now c.program_at.new.places c.in-Ok.program = search rules in
    let certifies = certifies_of o c.args.places.now asked c.program_at.new.places c.in-Ok.program length d c.length_of-length.ensures.given image c.in-Ok-found_for.ensures.ok c.in-Ok-found_for.ensures.shown in
    let fails : IfErr c.from_residual-in_err-put_all.result (NotAllPut w c.program_at.new.places asked c.made_of-made.result.now d.certificate (notes_and_changes (hardening_of asked) beside.notes.items (string_bytes beside.changes))
    c.put_all.new.places)
    = let p = err_from_is_err_and c.from_residual-in_err-put_all.result c.from_residual-in_err-put_all.ensures.1 in rw (p.1, p.2) c.in_err-put_all.ensures.err in
    puts_left c.from_residual-in_err-put_all.result o w c.args.places.now asked c.put_all.new.places
    (stands_not c.from_residual-in_err-put_all.result o w c.args.places.now asked c.program_at.new.places c.put_all.new.places c.made_of-made.result.now (made_of c.in-Ok.program d) d.certificate (notes_of d.rewritten)
    (told_of asked length d) beside.notes.items (string_bytes beside.changes) certifies c.made_of-made.ensures c.in-Ok-found_for.ensures.notes fails)

pub returns-clause-ok : goal.returns-clause-ok
returns-clause-ok g c =
    let o = g.P.Places.opens in
    let w = putting g.P.Places.creates g.P.Places.ends g.P.Writer.Write.contents in
    let asked = c.args.asked in
    let d = c.in-Ok-found_for.found.certified in
    let beside = c.in-Ok-found_for.found.beside in
    let length = c.length_of-length.result in
    let image : LoadsImage o asked.order c.args.places.now asked.input.now c.program_at.new.places c.in-Ok.program = search rules in
    let certifies = certifies_of o c.args.places.now asked c.program_at.new.places c.in-Ok.program length d c.length_of-length.ensures.given image c.in-Ok-found_for.ensures.ok c.in-Ok-found_for.ensures.shown in
    stands_so o w c.args.places.now asked c.program_at.new.places c.put_all.new.places c.made_of-made.result.now (made_of c.in-Ok.program d) d.certificate (notes_of d.rewritten) c.told_of-told.result (told_of asked length d)
    beside.notes.items (string_bytes beside.changes) certifies c.made_of-made.ensures c.told_of-told.ensures c.in-Ok-found_for.ensures.notes c.in_ok-put_all.ensures.ok.1
