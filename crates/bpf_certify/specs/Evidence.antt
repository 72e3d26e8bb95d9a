-- What notes of a hardened program show, beside its certificate.
use Rattle.std.specs.Prelude.{◌≡◌, ◌⊎◌, ℕ, Option, Some, MatchOption}
use Rattle.bpf_insn.specs.Instruction.{Instructions}
use Rattle.bpf_cert.specs.View.{CertificateView}
use Rattle.bpf_check.specs.CheckedProgram.{IsCertifiedBy}
use Rattle.bpf_kept.specs.declared.bounds.Bounds.{Bounds}
use Rattle.bpf_kept.specs.Matching.{Notes}
use Rattle.bpf_kept.specs.Mismatches.{MatchesBeside, IsMismatch}
use Rattle.bpf_kept.specs.Shown.{Keeps}
use Rattle.bpf_kept.specs.declared.mismatch.Mismatch.{Mismatch}
use Rattle.bpf_kept.specs.declared.mismatch.Mismatch.TheVariants.{Length}

-- The certificate that was found certifies the new program, and beside it the notes match. So the new program keeps the old one's meaning.
pub record Shows (old new : Instructions) (found : Option CertificateView) (notes : Notes) (bounds : Bounds) : Type 0 where
  pub certificate : CertificateView
  pub is_found : found ≡ Some certificate
  pub certified : IsCertifiedBy new certificate
  pub matches : MatchesBeside old new notes certificate bounds
  pub keeps : Keeps old new notes bounds

-- no certificate was found that certifies it
abbrev pub IsUncertified : Instructions → Option CertificateView → Type 0
IsUncertified new found = (c : CertificateView) → found ≡ Some c → IsCertifiedBy new c → ⊥

-- That is told as one of another length; or this fails of the notes beside it.
abbrev pub Fails : Instructions → Instructions → Option CertificateView → Notes → Bounds → Mismatch → Type 0
Fails old new found notes bounds m =
    ((m ≡ Length) × IsUncertified new found) ⊎ ((c : CertificateView) × (found ≡ Some c) × IsMismatch old new notes c bounds m)

-- They show it, or this fails.
abbrev pub IsEvidence : Instructions → Instructions → Option CertificateView → Notes → Bounds → Option Mismatch → Type 0
IsEvidence old new found notes bounds mismatch = MatchOption mismatch (Shows old new found notes bounds) (Fails old new found notes bounds)

-- for runs that leave so many of the lowest bytes of each frame to r10
abbrev pub leaving : Bounds → ℕ → Bounds
leaving runs untouched = record { length = runs.length; padded = runs.padded; turns = runs.turns; untouched = untouched }
