use Rattle.std.proofs.Common.{◌≡◌, ℕ, Err, inr, refl, rules, true, false}
use Rattle.bpf_check.specs.CheckedProgram.{IsCertifiedBy}
use Rattle.bpf_answers.specs.Made.{making}
use Rattle.bpf_answers.specs.Loaded.{CertificateAt}
use Rattle.bpf_answers.proofs.MadeLemmas.{put_fails, put_leaves}
use Rattle.bpf_command.specs.Emitted.{JudgedFails, promise_of}
use Rattle.bpf_command.proofs.EmittedLemmas.{puts_of}
use Rattle.bpf_command.proofs.commands.to_c.emitted_of.Goals as goal

pub returns-in-Ok-put-clause-ok : goal.returns-in-Ok-put-clause-ok
returns-in-Ok-put-clause-ok g c =
    let at = g.P.Places.opens in
    let puts = making g.P.Places.creates g.P.Places.ends g.P.Writer.Write.contents in
    let p = g.C.Code.program c.args.program.now in
    let read : CertificateAt at c.args.places.now c.args.asked.certificate.now c.certificate_at.new.places c.in-Ok.certificate = search rules in
    let by : IsCertifiedBy p c.in-Ok.certificate = search rules in
    let promise : c.promise_of-promise.result ≡ promise_of c.in-Ok.certificate = search rules in
    puts_of at puts c.args.places.now p c.args.asked c.certificate_at.new.places c.in-Ok.certificate c.promise_of-promise.result true c.put.new.places read by promise c.in-Ok-put.ensures.ok.1

pub returns-clause-err : goal.returns-clause-err
returns-clause-err g c =
    let at = g.P.Places.opens in
    let puts = making g.P.Places.creates g.P.Places.ends g.P.Writer.Write.contents in
    let p = g.C.Code.program c.args.program.now in
    let read : CertificateAt at c.args.places.now c.args.asked.certificate.now c.certificate_at.new.places c.in-Ok.certificate = search rules in
    let by : IsCertifiedBy p c.in-Ok.certificate = search rules in
    let promise : c.promise_of-promise.result ≡ promise_of c.in-Ok.certificate = search rules in
    put_fails {A = ℕ} (Err c.in-Err-put.failure) c.args.asked.output _ (JudgedFails at puts c.args.places.now p c.args.asked c.put.new.places) c.in-Err-put.ensures.err
    (λ made. (refl, puts_of at puts c.args.places.now p c.args.asked c.certificate_at.new.places c.in-Ok.certificate c.promise_of-promise.result false c.put.new.places read by promise made))
    (λ made. tt)

pub returns-clause-names : goal.returns-clause-names
returns-clause-names g c =
    let at = g.P.Places.opens in
    let puts = making g.P.Places.creates g.P.Places.ends g.P.Writer.Write.contents in
    let p = g.C.Code.program c.args.program.now in
    let read : CertificateAt at c.args.places.now c.args.asked.certificate.now c.certificate_at.new.places c.in-Ok.certificate = search rules in
    let by : IsCertifiedBy p c.in-Ok.certificate = search rules in
    let promise : c.promise_of-promise.result ≡ promise_of c.in-Ok.certificate = search rules in
    put_leaves {A = ℕ} (Err c.in-Err-put.failure) c.args.asked.output _ _ c.in-Err-put.ensures.err
    (λ made. inr (puts_of at puts c.args.places.now p c.args.asked c.certificate_at.new.places c.in-Ok.certificate c.promise_of-promise.result false c.put.new.places read by promise made))
