-- What is certified, and what is refused, from what the parts tell.
use Rattle.std.proofs.Common.{◌≡◌, ◌⊎◌, ℕ, ◌<◌, ◌≤◌, [], Option, Some, IfSome, Result, Ok, Err, IfErr, IsTrue, inl, inr, refl, sym, subst, arith}
use Rattle.std.proofs.lemmas.Bool.{false≢true}
use Rattle.bpf_insn.specs.Instruction.{Instructions, slots}
use Rattle.bpf_insn.specs.Limits.{frame_bytes}
use Rattle.bpf_cert.specs.View.{CertificateView}
use Rattle.bpf_kept.specs.declared.bounds.Bounds.{Bounds}
use Rattle.bpf_kept.specs.Matching.{Notes, arrives, starts}
use Rattle.bpf_kept.specs.Mismatches.{IsFor, IsMismatch, IsUnbegun, MatchesBeside, Starts, mismatch_slot}
use Rattle.bpf_kept.specs.Shown.{Keeps}
use Rattle.bpf_kept.specs.declared.mismatch.Mismatch.{Mismatch}
use Rattle.bpf_kept.specs.declared.mismatch.Mismatch.TheVariants.{Order, Start, At, TooMany, Length, NoExit}
use Rattle.bpf_kept.specs.declared.mismatch.NoteFault.{NoteFault}
use Rattle.bpf_certify.specs.Evidence.{Fails, IsEvidence, Shows, leaving}
use Rattle.bpf_certify.specs.Certified.{AreWished, IsPaid, IsRefused, IsRewritten, IsUnjudged, IsUnshown, certify_slot, runs_for, runs_of}
use Rattle.bpf_certify.specs.declared.certified.Certified.{Certified}
use Rattle.bpf_certify.specs.declared.certified.Rewritten.{Rewritten}
use Rattle.bpf_certify.specs.declared.wish.Wish.{Wish}
use Rattle.bpf_certify.specs.declared.error.CertifyError.{CertifyError}
use Rattle.bpf_certify.specs.declared.error.CertifyError.TheVariants.{Unhardened, Unshown, TooDear, Uncertified}

-- ---- what comes out

some_same : {T : Type 0} (a b : T) (o : Option T) → o ≡ Some a → o ≡ Some b → a ≡ b
some_same a b o one other = cc

-- what is shown beside the certificate that was found is shown beside the one that comes out
beside : (old new : Instructions) (found : Option CertificateView) (notes : Notes) (runs : Bounds) (c : CertificateView) → found ≡ Some c
    → Shows old new found notes runs → MatchesBeside old new notes c runs
beside old new found notes runs c is_found shows =
    subst (λ q. MatchesBeside old new notes q runs) (some_same shows.certificate c found shows.is_found is_found) shows.matches

-- notes that match beside the certificate show that the meaning is kept
pub rewritten : (old : Instructions) (length turns : ℕ) (wish : Wish) (d : Certified) (r : Rewritten) (new : Instructions) (found : Option CertificateView)
    → r.hardened.program ≡ new → IsPaid r.hardened.program d.certificate length wish.bound d.bound
    → found ≡ Some d.certificate → r.hardened.program.order ≡ old.order → AreWished wish r.turns → r.untouched ≤ frame_bytes → turns ≡ r.turns
    → (IsTrue r.is_shown → Shows old new found r.notes.items (leaving (runs_for length wish turns) r.untouched)) → IsRewritten old length wish d r
rewritten old length turns wish d r new found same paid is_found order_is turns_are few turns_is shows =
    let runs = runs_of length wish r in
    let kept : IsTrue r.is_shown → Shows old new found r.notes.items runs =
    λ shown. subst (λ n. Shows old new found r.notes.items (leaving (runs_for length wish n) r.untouched)) turns_is (shows shown) in
    let there : IsTrue r.is_shown → MatchesBeside old new r.notes.items d.certificate runs =
    λ shown. beside old new found r.notes.items runs d.certificate is_found (kept shown) in
    record {
      paid = paid;
      order_is = order_is;
      turns_are = turns_are;
      few = few;
      matches = λ shown. subst (λ q. MatchesBeside old q r.notes.items d.certificate runs) (sym same) (there shown);
      keeps = λ shown. subst (λ q. Keeps old q r.notes.items runs) (sym same) (kept shown).keeps;
    }

-- ---- what is refused

-- without notes the start doesn't match
unstarted : (new : Instructions) (bounds : Bounds) → Starts new [] bounds → ⊥
unfolding starts arrives
unstarted new bounds begins = false≢true begins.1

-- so that fails first of none, where what is noted of a slot fails first of some
start_fails : (old new : Instructions) (notes : Notes) (c : CertificateView) (bounds : Bounds) (slot before : ℕ) (fault : NoteFault)
    → IsMismatch old new notes c bounds (At slot before fault) → IsMismatch old new [] c bounds Start
unfolding IsMismatch IsUnbegun
start_fails old new notes c bounds slot before fault fails = (fails.0, (fails.1.0, omega arith, unstarted new bounds))

start_fails_first : (old new : Instructions) (notes : Notes) (c : CertificateView) (bounds : Bounds) (m : Mismatch) → 0 < slots old.list
    → slots old.list ≤ mismatch_slot m → IsMismatch old new notes c bounds m → IsMismatch old new [] c bounds Start
start_fails_first old new notes c bounds Order some past fails = absurd (omega arith)
start_fails_first old new notes c bounds Start some past fails = absurd (omega arith)
start_fails_first old new notes c bounds TooMany some past fails = absurd (omega arith)
start_fails_first old new notes c bounds Length some past fails = absurd (omega arith)
start_fails_first old new notes c bounds NoExit some past fails = absurd (omega arith)
start_fails_first old new notes c bounds (At slot before fault) some past fails = start_fails old new notes c bounds slot before fault fails

length_inside : (old : Instructions) (m : Mismatch) → 0 < slots old.list → slots old.list ≤ mismatch_slot m → m ≡ Length → ⊥
length_inside old m some past is =
    let P : Mismatch → Type 0 = λ q. slots old.list ≤ mismatch_slot q in
    let none : slots old.list ≤ 0 = subst P is past in omega arith

-- this is told of a mismatch, in a program of so many slots
abbrev IsToldOf : Mismatch → ℕ → Mismatch → Type 0
IsToldOf m count told = (told ≡ m) ⊎ ((told ≡ Start) × (count ≤ mismatch_slot m))

start_told : (old made : Instructions) (found : Option CertificateView) (notes : Notes) (bounds : Bounds) (m : Mismatch) → 0 < slots old.list
    → slots old.list ≤ mismatch_slot m → Fails old made found notes bounds m → Fails old made found [] bounds Start
start_told old made found notes bounds m some past fails =
    elim fails [
      | inl none ↦ absurd (length_inside old m some past none.0)
      | inr beside ↦ inr (beside.0, beside.1, start_fails_first old made notes beside.0 bounds m some past beside.2)
    ]

-- what is told of a mismatch fails first of these notes, or of none
fails_within : (old made : Instructions) (found : Option CertificateView) (notes : Notes) (bounds : Bounds) (m told : Mismatch) → 0 < slots old.list
    → IsToldOf m (slots old.list) told → Fails old made found notes bounds m → (noted : Notes) × Fails old made found noted bounds told
fails_within old made found notes bounds m told some is fails =
    let Of : Notes → Mismatch → Type 0 = λ noted q. Fails old made found noted bounds q in
    elim is [
      | inl same ↦ (notes, subst (Of notes) (sym same) fails)
      | inr other ↦ ([], subst (Of []) (sym other.0) (start_told old made found notes bounds m some other.1 fails))
    ]

-- so a program isn't judged, where evidence has a mismatch
pub evidence_fails : (old made : Instructions) (found : Option CertificateView) (notes : Notes) (runs : Bounds) (untouched count : ℕ)
    (o : Option Mismatch) (m told : Mismatch) → count ≡ slots old.list → 0 < slots old.list → o ≡ Some m → IfSome o (λ _. untouched ≡ 0)
    → IsEvidence old made found notes (leaving runs untouched) o → IsToldOf m count told → mismatch_slot told < count
    → IsUnjudged old made found runs (Unshown told)
evidence_fails old made found notes runs untouched count o m told count_is some is_some all judged is inside =
    let left = leaving runs untouched in
    let none : untouched ≡ 0 = subst (λ p. IfSome p (λ _. untouched ≡ 0)) is_some all in
    let first : Fails old made found notes left m = subst (λ p. IsEvidence old made found notes left p) is_some judged in
    let fails : Fails old made found notes (leaving runs 0) m = subst (λ n. Fails old made found notes (leaving runs n) m) none first in
    let told_is : IsToldOf m (slots old.list) told = subst (λ n. IsToldOf m n told) count_is is in
    let within = fails_within old made found notes (leaving runs 0) m told some told_is fails in
    (within.0, within.1, subst (λ n. mismatch_slot told < n) count_is inside)

-- another byte order fails first of notes, beside a certificate for the length
pub of_another_order : (old made : Instructions) (length most bound turns : ℕ) (wish : Wish) (c : CertificateView) → 0 < slots old.list
    → IsPaid made c length most bound → AreWished wish turns → (made.order ≡ old.order → ⊥) → IsUnshown old length wish Order
unfolding IsMismatch IsUnbegun
of_another_order old made length most bound turns wish c some paid turns_are other =
    let from = paid.least in
    let to = paid.greatest in
    let is_for : IsFor c length = (omega arith, omega arith) in
    record { made = made; found = Some c; notes = []; turns = turns; turns_are = turns_are; fails = inr (c, refl, (is_for, other)); inside = some }

refused_error : (old : Instructions) (length : ℕ) (wish : Wish) (e : CertifyError) → 0 < slots old.list → IsRefused old length wish e
    → certify_slot e < slots old.list
refused_error old length wish (Unhardened e) some refused = refused
refused_error old length wish (Unshown m) some refused = refused.inside
refused_error old length wish (TooDear tried bound) some refused = some
refused_error old length wish (Uncertified r) some refused = some

-- what is refused names a slot of the old program
pub refused_inside : {T : Type 0} (old : Instructions) (length : ℕ) (wish : Wish) (r : Result T CertifyError) → 0 < slots old.list
    → IfErr r (IsRefused old length wish) → IfErr r (λ e. certify_slot e < slots old.list)
refused_inside old length wish (Ok x) some refused = tt
refused_inside old length wish (Err e) some refused = refused_error old length wish e some refused
