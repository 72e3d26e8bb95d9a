-- Which text is which certificate's.
use Rattle.std.specs.Prelude.{◌≡◌, ℕ, List, ◌++◌, Some, None}
use Rattle.bpf_cert.specs.View.{CertificateView}
use Rattle.bpf_cert.specs.Spelling.{certificate_text}
use Rattle.bpf_cert.specs.Limits.{IsCertificate}
use Rattle.bpf_cert.specs.Faults.{text_fault, complete, failed, unknown}
use Rattle.bpf_cert.specs.declared.error.CertError.{CertError}

-- the text is the certificate's
pub record Spells (text : List ℕ) (c : CertificateView) : Type 0 where
  pub valid : IsCertificate c
  pub spelled : text ≡ certificate_text c

-- Laws above the definitions.

-- The text of a certificate has no fault.
abbrev pub SpelledIsFaultless : Type 0
SpelledIsFaultless = (text : List ℕ) (c : CertificateView) → Spells text c → text_fault complete text ≡ None

-- It is of one certificate alone.
abbrev pub SpelledOnce : Type 0
SpelledOnce = (text : List ℕ) (c d : CertificateView) → Spells text c → Spells text d → c ≡ d

-- A text without fault is a certificate's.
abbrev pub FaultlessIsSpelled : Type 0
FaultlessIsSpelled = (text : List ℕ) → text_fault complete text ≡ None → (c : CertificateView) × Spells text c

-- A fault that shows before all bytes came stays, whatever comes behind them and however the text stops.
abbrev pub FaultStays : Type 0
FaultStays = (text more : List ℕ) (f : CertError) → text_fault unknown text ≡ Some f → (text_fault complete (text ++ more) ≡ Some f) × (text_fault failed (text ++ more) ≡ Some f)
