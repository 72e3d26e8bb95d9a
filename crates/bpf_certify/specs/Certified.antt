-- What is answered of a program and a bound.
use Rattle.std.specs.Prelude.{◌≡◌, ℕ, ◌<◌, ◌≤◌, false, Option, Some, None, IfSome, IsTrue, if◌then◌else◌}
use Rattle.bpf_insn.specs.Instruction.{Instructions, slots}
use Rattle.bpf_insn.specs.Limits.{frame_bytes}
use Rattle.bpf_cert.specs.View.{CertificateView}
use Rattle.bpf_safety.specs.Certified.{IsLeastFlaw}
use Rattle.bpf_check.specs.CheckedProgram.{IsCertifiedBy}
use Rattle.bpf_check.specs.RefusalNumbers.{refusal_number, refusal_slot}
use Rattle.bpf_check.specs.declared.refusal.Refusal.{Refusal}
use Rattle.bpf_kept.specs.declared.bounds.Bounds.{Bounds}
use Rattle.bpf_kept.specs.declared.bounds.Turns.{Turns}
use Rattle.bpf_kept.specs.declared.bounds.Turns.TheVariants.{Most}
use Rattle.bpf_kept.specs.Matching.{Notes, shown_turns}
use Rattle.bpf_kept.specs.Mismatches.{MatchesBeside, mismatch_slot}
use Rattle.bpf_kept.specs.Shown.{Keeps}
use Rattle.bpf_kept.specs.declared.mismatch.Mismatch.{Mismatch}
use Rattle.bpf_certify.specs.Evidence.{Fails, leaving}
use Rattle.bpf_infer_base.specs.HardenNumbers.{harden_slot}
use Rattle.bpf_refusals.specs.Told.{told_hardening, told_not_shown, told_too_dear, told_uncertified}
use Rattle.bpf_refusals.specs.declared.told.Told.{Told}
use Rattle.bpf_certify.specs.declared.wish.Wish.{Wish}
use Rattle.bpf_certify.specs.declared.certified.Certified.{Certified}
use Rattle.bpf_certify.specs.declared.certified.Rewritten.{Rewritten}
use Rattle.bpf_certify.specs.declared.error.CertifyError.{CertifyError}
use Rattle.bpf_certify.specs.declared.error.CertifyError.TheVariants.{Unhardened, Unshown, TooDear, Uncertified}

-- H1 to H15
abbrev pub told_certifying : CertifyError → Told
told_certifying (Unhardened e) = told_hardening e
told_certifying (Unshown m) = told_not_shown m
told_certifying (TooDear turns bound) = told_too_dear bound
told_certifying (Uncertified r) = told_uncertified r

abbrev pub certify_slot : CertifyError → ℕ
certify_slot (Unhardened e) = harden_slot e
certify_slot (Unshown m) = mismatch_slot m
certify_slot (TooDear turns bound) = 0
certify_slot (Uncertified r) = 0

-- ---- what is certified

-- the certificate certifies the program for contexts of this length, and its bound, which is this one, is at most what is asked for
pub record IsPaid (program : Instructions) (certificate : CertificateView) (length most bound : ℕ) : Type 0 where
  pub certified : IsCertifiedBy program certificate
  pub least : certificate.least ≡ length
  pub greatest : certificate.most ≡ length
  pub bound_is : certificate.steps ≡ bound
  pub within : bound ≤ most

-- so many turns, if that is wished
abbrev pub AreWished : Wish → ℕ → Type 0
AreWished wish turns = IfSome wish.turns (λ wished. turns ≡ wished)

-- runs for these contexts and turns
abbrev pub runs_for : (length : ℕ) → Wish → (turns : ℕ) → Bounds
runs_for length wish turns = record { length = length; padded = wish.padded; turns = turns; untouched = 0 }

-- the runs of which it is shown: those of them that leave so many of the lowest bytes of each frame to r10
abbrev pub runs_of : ℕ → Wish → Rewritten → Bounds
runs_of length wish r = leaving (runs_for length wish r.turns) r.untouched

-- of how many turns it is told
abbrev pub told_turns : Rewritten → Turns
told_turns r = if r.is_shown then shown_turns r.notes.items r.turns else Most r.turns

-- The certificate is that of the new program, which has the old one's byte order, for the turns that are wished. Where it is told so, the notes match
-- beside this certificate, and the new program keeps the meaning of the old one, for the turns and the bytes that are told.
pub record IsRewritten (old : Instructions) (length : ℕ) (wish : Wish) (c : Certified) (r : Rewritten) : Type 0 where
  pub paid : IsPaid r.hardened.program c.certificate length wish.bound c.bound
  pub order_is : r.hardened.program.order ≡ old.order
  pub turns_are : AreWished wish r.turns
  pub few : r.untouched ≤ frame_bytes
  pub matches : IsTrue r.is_shown → MatchesBeside old r.hardened.program r.notes.items c.certificate (runs_of length wish r)
  pub keeps : IsTrue r.is_shown → Keeps old r.hardened.program r.notes.items (runs_of length wish r)

-- the certificate is the program's own, where nothing was rewritten and contexts aren't blocks
abbrev pub StandsFor : Instructions → ℕ → Wish → Certified → Option Rewritten → Type 0
StandsFor old length wish c None = (wish.padded ≡ false) × IsPaid old c.certificate length wish.bound c.bound
StandsFor old length wish c (Some r) = IsRewritten old length wish c r

abbrev pub Answers : Instructions → ℕ → Wish → Certified → Type 0
Answers old length wish c = StandsFor old length wish c c.rewritten

-- ---- what is refused

-- Beside what was found for a new program this fails first of notes, for the turns that are wished, at a slot of the old one.
pub record IsUnshown (old : Instructions) (length : ℕ) (wish : Wish) (m : Mismatch) : Type 0 where
  pub made : Instructions
  pub found : Option CertificateView
  pub notes : Notes
  pub turns : ℕ
  pub turns_are : AreWished wish turns
  pub fails : Fails old made found notes (runs_for length wish turns) m
  pub inside : mismatch_slot m < slots old.list

-- memory ran out, or this fails first of notes for a new program and these runs, at a slot of the old one
abbrev pub IsUnjudged : (old made : Instructions) → Option CertificateView → Bounds → CertifyError → Type 0
IsUnjudged old made found runs (Unhardened e) = harden_slot e ≡ 0
IsUnjudged old made found runs (Unshown m) = (notes : Notes) × Fails old made found notes (leaving runs 0) m × (mismatch_slot m < slots old.list)
IsUnjudged old made found runs (TooDear turns bound) = ⊥
IsUnjudged old made found runs (Uncertified r) = ⊥

-- this is the first flaw of a program for which a certificate was found
abbrev pub IsFlawed : Instructions → Refusal → Type 0
IsFlawed program r = (c : CertificateView) × IsLeastFlaw program c (refusal_slot r) (refusal_number r)

-- no certificate was found, or it is too dear, or doesn't certify
abbrev pub IsUnpaid : Instructions → (turns most : ℕ) → CertifyError → Type 0
IsUnpaid program turns most (Unhardened e) = harden_slot e ≡ 0
IsUnpaid program turns most (Unshown m) = ⊥
IsUnpaid program turns most (TooDear tried bound) = (tried ≡ turns) × (most < bound)
IsUnpaid program turns most (Uncertified r) = IsFlawed program r

-- H1 to H12 name a slot of the program; H13 what fails of notes; H14 a bound above the wish, with the turns that are wished; H15 a flaw
abbrev pub IsRefused : Instructions → ℕ → Wish → CertifyError → Type 0
IsRefused old length wish (Unhardened e) = harden_slot e < slots old.list
IsRefused old length wish (Unshown m) = IsUnshown old length wish m
IsRefused old length wish (TooDear turns bound) = AreWished wish turns × (wish.bound < bound)
IsRefused old length wish (Uncertified r) = (made : Instructions) × IsFlawed made r
