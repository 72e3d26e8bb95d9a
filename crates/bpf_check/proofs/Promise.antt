-- What a check that says yes promises.
use Rattle.std.proofs.Common.{◌≡◌, ℕ, ◌≤◌, List, sym, ◌∙◌, ap, subst, IfSome, Option, Some, None}
use Rattle.bpf_insn.specs.Instruction.{Instructions}
use Rattle.bpf_insn.specs.Image.{IsImage, IsProgram}
use Rattle.bpf_insn.specs.Laws.{AreBytes, ImageIsInjective}
use Rattle.bpf_semantics.specs.Run.{IsDone}
use Rattle.bpf_insn.specs.declared.order.Order.{Order}
use Rattle.bpf_safety.specs.Describes.{LengthWithin}
use Rattle.bpf_cert.specs.View.{CertificateView}
use Rattle.bpf_cert.specs.Certificates.{Spells}
use Rattle.bpf_safety.specs.Certified.{Certified, IsLeastFlaw}
use Rattle.bpf_safety.specs.Theorems.{IsSafe, IsFlatSafe, CertifiedIsSafe, CertifiedIsFlatSafe}
use Rattle.bpf_check.specs.CheckedProgram.{IsCertifiedBy}
use Rattle.bpf_flat.specs.Runs.{RunsTo, Ends}
use Rattle.bpf_check.specs.Verdicts.{Verified, Promises, HasFlaw, Certifies, program_in}
use Rattle.bpf_check.specs.RefusalNumbers.{refusal_slot, refusal_number}
use Rattle.bpf_check.proofs.CertificateFacts.{range_is_one, most_fits}
use Rattle.bpf_check.specs.declared.refusal.Refusal.{Refusal}

-- ---- runs

pub runs_to : CertifiedIsFlatSafe → (p : Instructions) (c : CertificateView) → IsCertifiedBy p c → (context : List ℕ) → AreBytes context → LengthWithin c.least c.most context → (v k : ℕ) → IsDone p context v k → k ≤ c.steps → RunsTo p c.steps context v
runs_to flat p c by context bytes len v k done le = record {
  steps = k;
  in_time = le;
  done = done;
  flat = λ place f g j is_place starts made. flat p c by.program by.certificate by.certified context place f g v k j (record { bytes = bytes; length_within = len }) is_place starts done made;
}

pub ends : CertifiedIsSafe → CertifiedIsFlatSafe → (p : Instructions) (c : CertificateView) → IsCertifiedBy p c → (context : List ℕ) → AreBytes context → LengthWithin c.least c.most context → Ends p c.steps context
ends safe flat p c by context bytes len =
    let e = (safe p c by.program by.certificate by.certified).ends context (record { bytes = bytes; length_within = len }) in
    (e.value, runs_to flat p c by context bytes len e.value e.steps e.done e.in_time)

-- ---- verdicts

-- a program is its list in its order
in_order : (order : Order) (p : Instructions) → p.order ≡ order → p ≡ program_in order p.list
in_order order p e = ap (λ o. program_in o p.list) e

pub verified : ImageIsInjective → CertifiedIsSafe → CertifiedIsFlatSafe → (order : Order) (bytes : List ℕ) (p : Instructions) (c : CertificateView) → IsImage order p.list bytes → p.order ≡ order → IsCertifiedBy p c → Verified order bytes c.least c.most c.steps
verified one safe flat order bytes p c im e by =
    let same = in_order order p e in
    record {
      program = p.list;
      is_image = record { program = by.program; bytes_are = im.bytes_are };
      only = λ other theirs. one order other p.list theirs.program.encoding by.program.encoding (sym theirs.bytes_are ∙ im.bytes_are);
      range = range_is_one c by.certificate;
      short = most_fits c by.certificate;
      safe = subst (λ q. IsSafe q c.least c.most c.steps) same (safe p c by.program by.certificate by.certified);
      flat = subst (λ q. IsFlatSafe q c.least c.most) same (flat p c by.program by.certificate by.certified);
    }

-- what is told of a certificate
pub record Tells (c : CertificateView) (least most bound : ℕ) : Type 0 where
  pub least_is : least ≡ c.least
  pub most_is : most ≡ c.most
  pub bound_is : bound ≡ c.steps

pub verified_as : (order : Order) (bytes : List ℕ) (c : CertificateView) (least most bound : ℕ) → Tells c least most bound → Verified order bytes c.least c.most c.steps → Verified order bytes least most bound
verified_as order bytes c least most bound told v =
    subst (λ n. Verified order bytes n most bound) (sym told.least_is)
    (subst (λ n. Verified order bytes c.least n bound) (sym told.most_is) (subst (λ n. Verified order bytes c.least c.most n) (sym told.bound_is) v))

-- the text that was read certifies the image's program, and tells what is promised
pub promises : (order : Order) (bytes text : List ℕ) (p : Instructions) (c : CertificateView) (least most bound : ℕ) → IsImage order p.list bytes → p.order ≡ order → IsCertifiedBy p c → Spells text c → Tells c least most bound → Promises order bytes text least most bound
promises order bytes text p c least most bound im e by spelled told = record {
  certificate = c;
  certifies = record {
    program = p.list;
    is_image = record { program = by.program; bytes_are = im.bytes_are };
    spelled = spelled;
    certified = subst (λ q. Certified q c) (in_order order p e) by.certified;
  };
  least_is = told.least_is;
  most_is = told.most_is;
  bound_is = told.bound_is;
}

-- of a value that may be unknown
pub if_some : {A : Type 0} {P Q : A → Type 0} (o : Option A) → ((x : A) → P x → Q x) → IfSome o P → IfSome o Q
if_some None f h = tt
if_some (Some x) f h = f x h

-- the refusal of a check is the first flaw of the image's program under the text's certificate
pub has_flaw : (order : Order) (bytes text : List ℕ) (p : Instructions) (c : CertificateView) (r : Refusal) → IsImage order p.list bytes → p.order ≡ order → IsProgram p.list → Spells text c → IsLeastFlaw p c (refusal_slot r) (refusal_number r) → HasFlaw order bytes text r
has_flaw order bytes text p c r im e prog spelled least = record {
  program = p.list;
  is_image = record { program = prog; bytes_are = im.bytes_are };
  certificate = c;
  spelled = spelled;
  least = subst (λ q. IsLeastFlaw q c (refusal_slot r) (refusal_number r)) (in_order order p e) least;
}

-- so no text that spells the certificate certifies the image
pub not_both : ImageIsInjective → (order : Order) (bytes text : List ℕ) (p : Instructions) (c d : CertificateView) (r : Refusal) → IsImage order p.list bytes → p.order ≡ order → IsLeastFlaw p c (refusal_slot r) (refusal_number r) → c ≡ d → Certifies order bytes text d → ⊥
not_both one order bytes text p c d r im e least same theirs =
    let list_is : theirs.program ≡ p.list = one order theirs.program p.list theirs.is_image.program.encoding im.encoding (sym theirs.is_image.bytes_are ∙ im.bytes_are) in
    let there : Certified (program_in order theirs.program) c = subst (λ k. Certified (program_in order theirs.program) k) (sym same) theirs.certified in
    let here : Certified p c = subst (λ q. Certified q c) (ap (program_in order) list_is ∙ sym (in_order order p e)) there in
    here (refusal_slot r) (refusal_number r) least.is_flaw
