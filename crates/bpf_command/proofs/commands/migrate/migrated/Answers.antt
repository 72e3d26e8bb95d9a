use Rattle.std.proofs.Common.{rules, ◌≡◌, ℕ, Err, subst, true, false, inr, refl}
use Rattle.bpf_cert.specs.Spelling.{certificate_text}
use Rattle.bpf_cert.specs.View.{CertificateView}
use Rattle.bpf_answers.specs.Loaded.{CertificateAt}
use Rattle.bpf_answers.specs.Made.{making}
use Rattle.bpf_command.specs.Printed.{MigrateFails, migrated}
use Rattle.bpf_answers.proofs.MadeLemmas.{put_fails}
use Rattle.bpf_command.proofs.commands.migrate.migrated.Goals as goal

pub returns-in-Ok-put-clause-ok : goal.returns-in-Ok-put-clause-ok
returns-in-Ok-put-clause-ok g c =
    let puts = making g.P.Places.creates g.P.Places.ends g.P.Writer.Write.contents in
    let read : CertificateAt g.P.Places.opens c.args.places.now c.args.asked.certificate.now c.certificate_at.new.places c.in-Ok.certificate = search rules in
    let same : c.in-Ok-migrate.migrated ≡ migrated c.in-Ok.certificate = c.in-Ok-migrate.ensures.ok in
    (c.certificate_at.new.places, c.in-Ok.certificate, read, subst (λ m. puts c.certificate_at.new.places c.args.asked.output.now (certificate_text m) true c.put.new.places) same c.in-Ok-put.ensures.ok.1)

pub returns-clause-err : goal.returns-clause-err
returns-clause-err g c =
    let at = g.P.Places.opens in
    let puts = making g.P.Places.creates g.P.Places.ends g.P.Writer.Write.contents in
    let read : CertificateAt at c.args.places.now c.args.asked.certificate.now c.certificate_at.new.places c.in-Ok.certificate = search rules in
    let same : c.in-Ok-migrate.migrated ≡ migrated c.in-Ok.certificate = c.in-Ok-migrate.ensures.ok in
    let Unmade : CertificateView → Type 0 = λ m. puts c.certificate_at.new.places c.args.asked.output.now (certificate_text m) false c.put.new.places in
    put_fails {A = ℕ} (Err c.in-Err-put.failure) c.args.asked.output (Unmade c.in-Ok-migrate.migrated)
    (MigrateFails at puts c.args.places.now c.args.asked.certificate.now c.args.asked.output.now c.put.new.places) c.in-Err-put.ensures.err
    (λ made. (refl, (c.certificate_at.new.places, c.in-Ok.certificate, read, subst Unmade same made))) (λ made. tt)

pub returns-clause-names : goal.returns-clause-names
returns-clause-names g c =
    let puts = making g.P.Places.creates g.P.Places.ends g.P.Writer.Write.contents in
    let read : CertificateAt g.P.Places.opens c.args.places.now c.args.asked.certificate.now c.certificate_at.new.places c.in-Ok.certificate = search rules in
    let same : c.in-Ok-migrate.migrated ≡ migrated c.in-Ok.certificate = c.in-Ok-migrate.ensures.ok in
    inr (c.certificate_at.new.places, c.in-Ok.certificate, read, subst (λ m. puts c.certificate_at.new.places c.args.asked.output.now (certificate_text m) false c.put.new.places) same c.in-Err-put.ensures.err.1)
