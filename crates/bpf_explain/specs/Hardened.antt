-- What comes of a hardening that is explained.
use Rattle.std.specs.Prelude.{◌≡◌, ◌<◌, ℕ, Option}
use Rattle.bpf_insn.specs.Instruction.{Instructions, slots}
use Rattle.bpf_cert.specs.View.{CertificateView}
use Rattle.bpf_kept.specs.declared.bounds.Bounds.{Bounds}
use Rattle.bpf_kept.specs.Matching.{Notes}
use Rattle.bpf_kept.specs.Shown.{Keeps}
use Rattle.bpf_certify.specs.Evidence.{Fails}
use Rattle.bpf_infer_base.specs.HardenNumbers.{harden_slot}
use Rattle.bpf_explain.specs.declared.hardened.HardeningAsked.{HardeningAsked}
use Rattle.bpf_explain.specs.declared.hardened.HardenedProgram.{HardenedProgram}
use Rattle.bpf_explain.specs.declared.refusal.Unhardened.{Unhardened}
use Rattle.bpf_explain.specs.declared.refusal.Unhardened.TheVariants.{Refused, Unshown}

-- the runs for which a program is hardened, where so many of the lowest bytes of each frame are left to r10
abbrev pub runs_of : HardeningAsked → ℕ → Bounds
runs_of h untouched = record { length = h.length; padded = h.padded; turns = h.turns; untouched = untouched }

-- The new program keeps the meaning of the old one, by some notes, and its certificate is for contexts of the length that is asked for.
pub record IsMade (old : Instructions) (h : HardeningAsked) (m : HardenedProgram) : Type 0 where
  pub notes : Notes
  pub keeps : Keeps old m.program notes (runs_of h m.untouched)
  pub least : m.certificate.least ≡ h.length
  pub most : m.certificate.most ≡ h.length

-- The refusal names a slot of the old program; or notes of a new one don't match, beside what was found for it.
abbrev pub IsUnhardened : Instructions → HardeningAsked → Unhardened → Type 0
IsUnhardened old h (Refused e) = harden_slot e < slots old.list
IsUnhardened old h (Unshown m) = (new : Instructions) × (found : Option CertificateView) × (notes : Notes) × Fails old new found notes (runs_of h 0) m
