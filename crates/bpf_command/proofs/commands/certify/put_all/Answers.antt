use Rattle.std.proofs.Common.{rules, ◌≡◌, IfOk, IfErr, subst}
use Rattle.std.specs.String.{string_bytes}
use Rattle.bpf_command.specs.CommandLine.{hardening_of}
use Rattle.bpf_answers.specs.Both.{putting}
use Rattle.bpf_command.specs.Certified.{NoPair}
use Rattle.bpf_command.specs.Texts.{TextsFail, TextsStand, notes_and_changes}
use Rattle.bpf_command.proofs.CertifiedLemmas.{all_put, pair_unput, texts_unput}
use Rattle.bpf_command.proofs.commands.certify.put_all.Goals as goal

pub returns-in_err-put_both-clause-err : goal.returns-in_err-put_both-clause-err
returns-in_err-put_both-clause-err g c =
    let w = putting g.P.Places.creates g.P.Places.ends g.P.Writer.Write.contents in
    let fails : IfErr c.from_residual.result (NoPair w.pairs c.args.places.now c.args.asked c.args.made.now c.args.certificate.now c.put_both.new.places) = search rules in
    pair_unput c.from_residual.result w c.args.places.now c.args.asked c.args.made.now c.args.certificate.now
    (notes_and_changes (hardening_of c.args.asked) c.args.beside.now.notes.items (string_bytes c.args.beside.now.changes)) c.put_both.new.places fails

pub returns-clause-ok : goal.returns-clause-ok
returns-clause-ok g c =
    let w = putting g.P.Places.creates g.P.Places.ends g.P.Writer.Write.contents in
    let notes = c.args.beside.now.notes.items in
    let changes = string_bytes c.args.beside.now.changes in
    all_put c.put_beside.result w c.args.places.now c.args.asked c.args.made.now c.args.certificate.now (notes_and_changes (hardening_of c.args.asked) notes changes) c.put_both.new.places c.put_beside.new.places
    c.in_ok-put_both.ensures.ok.1
    (subst (λ h. IfOk c.put_beside.result (λ status. (status ≡ 0) × TextsStand w.makes c.put_both.new.places (notes_and_changes h notes changes) c.put_beside.new.places)) c.hardening.ensures c.put_beside.ensures.ok)

pub returns-clause-err : goal.returns-clause-err
returns-clause-err g c =
    let w = putting g.P.Places.creates g.P.Places.ends g.P.Writer.Write.contents in
    let notes = c.args.beside.now.notes.items in
    let changes = string_bytes c.args.beside.now.changes in
    texts_unput c.put_beside.result w c.args.places.now c.args.asked c.args.made.now c.args.certificate.now (notes_and_changes (hardening_of c.args.asked) notes changes) c.put_both.new.places c.put_beside.new.places
    c.in_ok-put_both.ensures.ok.1
    (subst (λ h. IfErr c.put_beside.result (TextsFail w.makes c.put_both.new.places (notes_and_changes h notes changes) c.put_beside.new.places)) c.hardening.ensures c.put_beside.ensures.err)
