use Rattle.std.proofs.Common.{refl, false, rules}
use Rattle.bpf_answers.specs.Loaded.{CertificateAt, CertificateRefused}
use Rattle.bpf_answers.specs.declared.answer.Answer.TheVariants.{NoCertificate}
use Rattle.bpf_command.specs.Printed.{JudgedSays, YesSays}
use Rattle.bpf_cert.specs.declared.error.CertError.TheVariants.{Memory}
use Rattle.bpf_command.proofs.ExplainedLemmas.{answered_so, judged_so, printed_so}
use Rattle.bpf_command.proofs.commands.explain.explained_with.Goals as goal

pub returns-in-Ok-clause-ok : goal.returns-in-Ok-clause-ok
returns-in-Ok-clause-ok g c =
    let at = g.P.Places.opens in
    let p = g.C.Code.program c.args.program.now in
    let read : CertificateAt at c.args.places.now c.args.certificate.now c.certificate_kept.new.places c.in-Ok.certificate = search rules in
    judged_so c.say_program.result at c.args.places.now c.args.certificate.now c.certificate_kept.new.places p c.in-Ok.certificate read c.say_program.ensures.ok

pub returns-in-Err-Memory-clause-ok : goal.returns-in-Err-Memory-clause-ok
returns-in-Err-Memory-clause-ok g c =
    let at = g.P.Places.opens in
    let p = g.C.Code.program c.args.program.now in
    let refused : CertificateRefused at c.args.places.now c.args.certificate.now c.certificate_kept.new.places Memory = search rules in
    printed_so c.print.result (NoCertificate Memory) _ _ (JudgedSays at c.args.places.now c.args.certificate.now c.certificate_kept.new.places p (YesSays false)) refused c.print.ensures.ok

pub returns-in-Err-clause-ok : goal.returns-in-Err-clause-ok
returns-in-Err-clause-ok g c =
    let at = g.P.Places.opens in
    let p = g.C.Code.program c.args.program.now in
    let refused : CertificateRefused at c.args.places.now c.args.certificate.now c.certificate_kept.new.places c.in-Err.error = search rules in
    answered_so c.refused_text.result 1 (NoCertificate c.in-Err.error) (JudgedSays at c.args.places.now c.args.certificate.now c.certificate_kept.new.places p (YesSays false)) refl refused c.refused_text.ensures.ok
