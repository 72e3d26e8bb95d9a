use Rattle.std.proofs.Common.{IfNone, IfSome, subst}
use Rattle.bpf_safety.specs.Certified.{IsLeastFlaw}
use Rattle.bpf_check.specs.CheckedProgram.{IsCertifiedBy}
use Rattle.bpf_check.specs.RefusalNumbers.{refusal_slot, refusal_number}
use Rattle.bpf_host_calls.proofs.ExplainedLemmas.{by_image, by_text, by_yes, by_flaw}
use Rattle.bpf_host_calls.proofs.explanation.checked.Goals as goal

pub returns-in-Err : goal.returns-in-Err
returns-in-Err c = by_image c.args.given.order c.args.given.image.now c.args.certificate.now c.refused_image.result c.refused_image.ensures

pub returns-in-Err-read : goal.returns-in-Err-read
returns-in-Err-read c =
    by_text c.args.given.order c.args.given.image.now c.args.certificate.now c.in-Ok.program c.in-Err-read.error c.refused_text.result c.in-Ok.ensures.ok.0 c.in-Ok.ensures.program c.in-Err-read.ensures.err c.refused_text.ensures

pub returns-in-Ok-None : goal.returns-in-Ok-None
returns-in-Ok-None c =
    by_yes c.args.given.order c.args.given.image.now c.args.certificate.now c.in-Ok.program c.in-Ok-read.certificate c.in-Ok.ensures.ok.0 c.in-Ok.ensures.ok.1 c.in-Ok-read.ensures.ok (subst (λ o. IfNone o (IsCertifiedBy c.in-Ok.program c.in-Ok-read.certificate)) c.in-Ok-None.field-0-is c.in-Ok-None.ensures.accepted)

pub returns-in-Ok-Some : goal.returns-in-Ok-Some
returns-in-Ok-Some c =
    by_flaw c.args.given.order c.args.given.image.now c.args.certificate.now c.in-Ok.program c.in-Ok-read.certificate c.in-Ok-Some.refusal c.refusal_of.result c.in-Ok.ensures.ok.0 c.in-Ok.ensures.ok.1 c.in-Ok.ensures.program c.in-Ok-read.ensures.ok (subst (λ o. IfSome o (λ r. IsLeastFlaw c.in-Ok.program c.in-Ok-read.certificate (refusal_slot r) (refusal_number r))) c.in-Ok-Some.field-0-is c.in-Ok-Some.ensures.refused) c.refusal_of.ensures
