-- How an image is judged, from what its parts tell.
use Rattle.std.proofs.Common.{◌≡◌, ℕ, List, Option, Some, None, IfSome, IfNone, sym, subst, inr}
use Rattle.bpf_insn.specs.Instruction.{Instructions}
use Rattle.bpf_insn.specs.Image.{IsImage, IsProgram}
use Rattle.bpf_insn.specs.declared.order.Order.{Order}
use Rattle.bpf_cert.specs.View.{CertificateView}
use Rattle.bpf_cert.specs.Certificates.{Spells}
use Rattle.bpf_cert.specs.ReadAnswers.{IsFaultOf, IsFromOutside}
use Rattle.bpf_cert.specs.declared.error.CertError.{CertError}
use Rattle.bpf_safety.specs.Certified.{Certified, IsLeastFlaw}
use Rattle.bpf_check.specs.CheckedProgram.{IsCertifiedBy}
use Rattle.bpf_check.specs.RefusalNumbers.{refusal_slot, refusal_number}
use Rattle.bpf_check.specs.declared.refusal.Refusal.{Refusal}
use Rattle.bpf_check.specs.declared.verifier.VerifyError.TheVariants.{Image as InImage, Cert as InCert, Check as InCheck}
use Rattle.bpf_host_calls.specs.Told.{TellsCertificate, TellsCheck}
use Rattle.bpf_host_calls.specs.Answers.{IsRefusedAsTold}
use Rattle.bpf_host_calls.specs.Explained.{IsRefusedImage, IsCheckedAs, IsCertifiedBySome, IsJudgedBy, IsSearchedAs}
use Rattle.bpf_host_calls.specs.declared.answers.BpfRefusal.{BpfRefusal}
use Rattle.bpf_host_calls.specs.declared.explanation.HowJudged.{HowJudged}
use Rattle.bpf_host_calls.specs.declared.explanation.HowJudged.TheVariants.{Accepted, Refused}
use Rattle.bpf_host_calls.proofs.ImageLemmas.{image_of, in_order}

-- bytes that are no image
pub by_image : (order : Order) (image text : List ℕ) (o : Option HowJudged) → IfSome o (λ j. (told : BpfRefusal) × (j ≡ Refused told) × IsRefusedImage order image told) → IfSome o (IsCheckedAs order image text)
by_image order image text None h = h
by_image order image text (Some j) h =
    subst (λ k. IsCheckedAs order image text k) (sym h.1) (record { error = InImage h.2.0; refused = h.2.1; read = λ unread. unread; tells = h.2.2 })

-- a text that is no certificate
pub by_text : (order : Order) (image text : List ℕ) (p : Instructions) (e : CertError) (o : Option HowJudged) → IsImage order p.list image → IsProgram p.list → IsFaultOf text e → IfSome o (λ j. (told : BpfRefusal) × (j ≡ Refused told) × TellsCertificate e told × ¬ (IsFromOutside e)) → IfSome o (IsCheckedAs order image text)
by_text order image text p e None im program fault h = h
by_text order image text p e (Some j) im program fault h =
    subst (λ k. IsCheckedAs order image text k) (sym h.1) (record { error = InCert e; refused = ((p.list, image_of order image p im program), fault); read = h.3; tells = h.2 })

-- a certificate that certifies
pub by_yes : (order : Order) (image text : List ℕ) (p : Instructions) (c : CertificateView) → IsImage order p.list image → p.order ≡ order → Spells text c → IsCertifiedBy p c → IsCertifiedBySome order image text
by_yes order image text p c im same spelled by =
    (c, record { program = p.list; is_image = image_of order image p im by.program; spelled = spelled; certified = subst (λ q. Certified q c) (in_order order p same) by.certified })

-- and one that doesn't
pub by_flaw : (order : Order) (image text : List ℕ) (p : Instructions) (c : CertificateView) (r : Refusal) (told : BpfRefusal) → IsImage order p.list image → p.order ≡ order → IsProgram p.list → Spells text c → IsLeastFlaw p c (refusal_slot r) (refusal_number r) → TellsCheck r told → IsRefusedAsTold order image text told
by_flaw order image text p c r told im same program spelled flaw tells =
    record {
      error = InCheck r;
      refused = record { program = p.list; is_image = image_of order image p im program; certificate = c; spelled = spelled; least = subst (λ q. IsLeastFlaw q c (refusal_slot r) (refusal_number r)) (in_order order p same) flaw };
      read = λ unread. unread;
      tells = tells;
    }

-- a certificate that is found is judged
pub by_found : (order : Order) (image : List ℕ) (p : Instructions) (c : CertificateView) (least most : ℕ) (j : HowJudged) → IsImage order p.list image → p.order ≡ order → IsProgram p.list → c.least ≡ least → c.most ≡ most → IsJudgedBy p c j → IsSearchedAs order image least most j
by_found order image p c least most Accepted im same program low high by =
    record { program = p.list; is_image = image_of order image p im program; certificate = c; least_is = low; most_is = high; certified = subst (λ q. Certified q c) (in_order order p same) by }
by_found order image p c least most (Refused told) im same program low high by =
    inr
    (record {
      program = p.list;
      is_image = image_of order image p im program;
      certificate = c;
      least_is = low;
      most_is = high;
      refusal = by.0;
      flaw = subst (λ q. IsLeastFlaw q c (refusal_slot by.0) (refusal_number by.0)) (in_order order p same) by.1;
      tells = by.2;
    })

-- a certificate is judged as the checker's refusal is told
pub by_refusal : (p : Instructions) (c : CertificateView) (o : Option Refusal) (j : HowJudged) → IfNone o (IsCertifiedBy p c) → IfSome o (λ r. IsLeastFlaw p c (refusal_slot r) (refusal_number r)) → IfNone o (j ≡ Accepted) → IfSome o (λ r. (told : BpfRefusal) × (j ≡ Refused told) × TellsCheck r told) → IsJudgedBy p c j
by_refusal p c None j certifies flaw accepted refused = subst (λ k. IsJudgedBy p c k) (sym accepted) certifies.certified
by_refusal p c (Some r) j certifies flaw accepted refused = subst (λ k. IsJudgedBy p c k) (sym refused.1) (r, flaw, refused.2)
