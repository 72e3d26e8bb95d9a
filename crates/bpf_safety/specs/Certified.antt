-- Certified programs, and the refusal of the others.
use Rattle.std.specs.Prelude.{◌≡◌, ℕ, ◌<◌, ◌≤◌, ◌⊎◌, Contains}
use Rattle.bpf_insn.specs.Instruction.{Instructions}
use Rattle.bpf_cert.specs.View.{CertificateView}
use Rattle.bpf_safety.specs.Flaw.{flaws}

-- the condition with this number fails at the slot
abbrev pub Flaw : Instructions → CertificateView → ℕ → ℕ → Type 0
Flaw p c slot number = Contains (flaws p c) (slot, number)

-- no condition fails
abbrev pub Certified : Instructions → CertificateView → Type 0
Certified p c = (slot number : ℕ) → Flaw p c slot number → ⊥

-- the flaw at the lowest slot, and there the one with the lowest number
pub record IsLeastFlaw (p : Instructions) (c : CertificateView) (slot number : ℕ) : Type 0 where
  pub is_flaw : Flaw p c slot number
  pub is_least : (slot' number' : ℕ) → Flaw p c slot' number' → (slot < slot') ⊎ ((slot ≡ slot') × (number ≤ number'))
