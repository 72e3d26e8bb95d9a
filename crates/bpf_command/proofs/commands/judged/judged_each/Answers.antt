use Rattle.std.proofs.Common.{rules, ◌≡◌, ◌∙◌, inl}
use Rattle.bpf_check.specs.CheckedProgram.{IsCertifiedBy, checked}
use Rattle.bpf_check.specs.RefusalNumbers.{refusal_slot, refusal_number}
use Rattle.bpf_safety.specs.Certified.{IsLeastFlaw}
use Rattle.bpf_answers.specs.Loaded.{CertificateAt}
use Rattle.bpf_answers.proofs.MadeLemmas.{keeps}
use Rattle.bpf_command.specs.Noted.{noted_in}
use Rattle.bpf_command.proofs.EachLemmas.{judged_each_says, judged_each_fails, judged_each_leaves}
use Rattle.bpf_command.proofs.commands.judged.judged_each.Goals as goal

pub returns-in-Err-check-clause-ok : goal.returns-in-Err-check-clause-ok
returns-in-Err-check-clause-ok g c =
    let p = g.C.Code.program c.args.program.now in
    let read : CertificateAt g.P.Places.opens c.args.places.now c.args.running.asked.certificate.now c.certificate_at.new.places c.in-Ok.certificate = search rules in
    let flaw : IsLeastFlaw p c.in-Ok.certificate (refusal_slot c.in-Err-check.refusal) (refusal_number c.in-Err-check.refusal) = search rules in
    inl ((c.in-Ok.certificate, read, flaw), keeps _)

pub returns-in-Ok-answered-clause-ok : goal.returns-in-Ok-answered-clause-ok
returns-in-Ok-answered-clause-ok g c =
    let at = g.P.Places.opens in
    let p = g.C.Code.program c.args.program.now in
    let read : CertificateAt at c.args.places.now c.args.running.asked.certificate.now c.certificate_at.new.places c.in-Ok.certificate = search rules in
    let by : IsCertifiedBy p c.in-Ok.certificate = search rules in
    let same : c.of.result ≡ checked p c.in-Ok.certificate = c.of.ensures ∙ c.in-Ok-check.ensures.ok in
    judged_each_says at c.args.places.now c.args.running.asked (noted_in c.args.running.notes) c.args.contexts c.certificate_at.new.places c.answered.new.places p c.in-Ok.certificate c.of.result _ _ c.in-Ok-answered.status read by same c.in-Ok-answered.ensures.ok

pub returns-clause-err : goal.returns-clause-err
returns-clause-err g c =
    let at = g.P.Places.opens in
    let p = g.C.Code.program c.args.program.now in
    let read : CertificateAt at c.args.places.now c.args.running.asked.certificate.now c.certificate_at.new.places c.in-Ok.certificate = search rules in
    let by : IsCertifiedBy p c.in-Ok.certificate = search rules in
    let same : c.of.result ≡ checked p c.in-Ok.certificate = c.of.ensures ∙ c.in-Ok-check.ensures.ok in
    judged_each_fails at c.args.places.now c.args.running.asked (noted_in c.args.running.notes) c.args.contexts c.certificate_at.new.places c.answered.new.places p c.in-Ok.certificate c.of.result _ _ c.in-Err-answered.failure read by same c.in-Err-answered.ensures.err

pub returns-clause-begun : goal.returns-clause-begun
returns-clause-begun g c =
    let at = g.P.Places.opens in
    let p = g.C.Code.program c.args.program.now in
    let read : CertificateAt at c.args.places.now c.args.running.asked.certificate.now c.certificate_at.new.places c.in-Ok.certificate = search rules in
    let by : IsCertifiedBy p c.in-Ok.certificate = search rules in
    let same : c.of.result ≡ checked p c.in-Ok.certificate = c.of.ensures ∙ c.in-Ok-check.ensures.ok in
    judged_each_leaves at c.args.places.now c.args.running.asked (noted_in c.args.running.notes) c.args.contexts c.certificate_at.new.places c.answered.new.places p c.in-Ok.certificate c.of.result _ _ read by same c.in-Err-answered.ensures.begun
