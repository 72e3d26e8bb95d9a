-- What is shown of a hardened program, by the notes that were judged.
use Rattle.std.proofs.Common.{◌≡◌, ℕ, Option, Some, None, IfSome, subst}
use Rattle.bpf_insn.specs.Instruction.{Instructions}
use Rattle.bpf_cert.specs.View.{CertificateView}
use Rattle.bpf_kept.specs.declared.bounds.Bounds.{Bounds}
use Rattle.bpf_kept.specs.Matching.{Notes}
use Rattle.bpf_kept.specs.Shown.{Keeps}
use Rattle.bpf_kept.specs.declared.mismatch.Mismatch.{Mismatch}
use Rattle.bpf_certify.specs.Evidence.{Fails, IsEvidence, Shows, leaving}
use Rattle.bpf_explain.specs.Hardened.{IsUnhardened, runs_of}
use Rattle.bpf_explain.specs.declared.hardened.HardeningAsked.{HardeningAsked}
use Rattle.bpf_explain.specs.declared.refusal.Unhardened.TheVariants.{Unshown}

-- notes that match show that the meaning is kept
pub kept : (old new : Instructions) (found : Option CertificateView) (notes : Notes) (h : HardeningAsked) (runs : Bounds) (untouched : ℕ)
    (o : Option Mismatch) → runs ≡ runs_of h 0 → o ≡ None
    → IsEvidence old new found notes (leaving runs untouched) o → (noted : Notes) × Keeps old new noted (runs_of h untouched)
kept old new found notes h runs untouched o same none judged =
    let P : Bounds → Type 0 = λ r. Shows old new found notes (leaving r untouched) in
    let matched : Shows old new found notes (leaving runs untouched) = subst (IsEvidence old new found notes (leaving runs untouched)) none judged in
    let shown : Shows old new found notes (runs_of h untouched) = subst P same matched in
    (notes, shown.keeps)

-- what fails of them fails for these runs
pub unshown : (old new : Instructions) (found : Option CertificateView) (notes : Notes) (h : HardeningAsked) (runs : Bounds) (untouched : ℕ)
    (o : Option Mismatch) (m : Mismatch) → runs ≡ runs_of h 0 → o ≡ Some m
    → IfSome o (λ _. untouched ≡ 0) → IsEvidence old new found notes (leaving runs untouched) o → IsUnhardened old h (Unshown m)
unshown old new found notes h runs untouched o m same some all judged =
    let P : Bounds → Type 0 = λ r. Fails old new found notes (leaving r 0) m in
    let none : untouched ≡ 0 = subst (λ p. IfSome p (λ _. untouched ≡ 0)) some all in
    let fails : Fails old new found notes (leaving runs untouched) m = subst (IsEvidence old new found notes (leaving runs untouched)) some judged in
    (new, found, notes, subst P same (subst (λ n. Fails old new found notes (leaving runs n) m) none fails))
