-- What is said of the names of a hardening, from what is said of each.
use Rattle.std.proofs.Common.{◌≡◌, ◌⊎◌, Some, None, ℕ, List, Bool, ◌++◌, true, false, Option, Result, Ok, Err, IfOk, IfErr, IfNone, IfSome, IsSome, refl, sym, subst, inl, inr, true≢false, ◌∙◌}
use Rattle.std.specs.Prelude.{◌&&◌, is_none}
use Rattle.std.specs.Borrow.{Bor}
use Rattle.bpf_insn.specs.Instruction.{Instructions}
use Rattle.bpf_insn.specs.Image.{IsProgram, image}
use Rattle.bpf_cert.specs.View.{CertificateView}
use Rattle.bpf_kept.specs.declared.bounds.Bounds.{Bounds}
use Rattle.bpf_kept.specs.declared.mismatch.Mismatch.{Mismatch}
use Rattle.bpf_kept.specs.declared.mismatch.Mismatch.TheVariants.{Order, Start, At, TooMany, Length, NoExit}
use Rattle.bpf_kept.specs.Matching.{Notes, shown_turns}
use Rattle.bpf_kept.specs.Shown.{Keeps}
use Rattle.bpf_follows.specs.NotesText.{notes_text}
use Rattle.bpf_certify.specs.Evidence.{IsEvidence}
use Rattle.bpf_command.specs.declared.request.hardening.Hardening.{Hardening}
use Rattle.bpf_answers.specs.Opened.{Opening}
use Rattle.bpf_answers.specs.Made.{Making}
use Rattle.bpf_answers.specs.Both.{NotPut}
use Rattle.bpf_answers.specs.Loaded.{ImageFails, LoadsImage}
use Rattle.bpf_answers.specs.Told.{IsQuiet}
use Rattle.bpf_command.specs.Hardened.{AllStand, AreLeft, HardenFails, Hardens, IsKept, IsLeftSaid, TextsFailBehind, bounds_of, found_text, goes_out, texts_of}
use Rattle.bpf_command.specs.Texts.{TextsFail, TextsStand, named, notes_and_changes}
use Rattle.bpf_command.specs.declared.commands.harden.KeptMeaning.{KeptMeaning}
use Rattle.bpf_answers.specs.declared.failure.Failure.{Failure}
use Rattle.bpf_answers.specs.declared.failure.Failure.TheVariants.{CannotRead, CannotWrite, NoMemory}
use Rattle.bpf_command.proofs.TextsLemmas.{IsOfWriting, named_as, texts_fault}

-- ---- the certificate

-- where none was found none is asked for
pub none_asked : {S : Type 0} (making : Making S) (old : S) (name : Option (Bor (List ℕ))) (found : Option CertificateView) → found ≡ None → IfSome name (λ _. IsSome found)
    → TextsStand making old (named name (found_text found)) old
none_asked making old None found none there = refl
none_asked making old (Some n) found none there = absurd (true≢false (sym (subst IsSome none there)))

-- one was found
found_so : (name : Option (Bor (List ℕ))) (found : Option CertificateView) (c : CertificateView) → found ≡ Some c → IfSome name (λ _. IsSome found)
found_so None found c is = tt
found_so (Some n) found c is = subst IsSome (sym is) refl

-- none is asked for
unasked : (name : Option (Bor (List ℕ))) (unproved : Bool) (found : Option CertificateView) → (unproved && is_none name) ≡ true → IfSome name (λ _. IsSome found)
unasked None unproved found out = tt
unasked (Some n) false found out = absurd (true≢false (sym out))
unasked (Some n) true found out = absurd (true≢false (sym out))

-- so of what goes out
pub there_of : (program made : Instructions) (h : Hardening) (found : Option CertificateView) (notes : Notes) (bounds : Bounds) (mismatch : Option Mismatch) → IsEvidence program made found notes bounds mismatch
    → IfSome mismatch (λ m. goes_out h m ≡ true) → IfSome h.certificate (λ _. IsSome found)
there_of program made h found notes bounds None shows out = found_so h.certificate found shows.certificate shows.is_found
there_of program made h found notes bounds (Some m) (inl (is, none)) out = unasked h.certificate h.unproved found (subst (λ n. goes_out h n ≡ true) is out)
there_of program made h found notes bounds (Some m) (inr (c, is, fails)) out = found_so h.certificate found c is

both_true : (a b : Bool) → (a && b) ≡ true → a ≡ true
both_true true b e = refl
both_true false b e = e

-- what fails goes out with `--unproved`
unproved_out : (h : Hardening) (m : Mismatch) → goes_out h m ≡ true → h.unproved ≡ true
unproved_out h Order out = out
unproved_out h Start out = out
unproved_out h (At slot before fault) out = out
unproved_out h TooMany out = out
unproved_out h NoExit out = out
unproved_out h Length out = both_true h.unproved (is_none h.certificate) out

pub proved_of : (h : Hardening) (mismatch : Option Mismatch) → IfSome mismatch (λ m. goes_out h m ≡ true) → h.unproved ≡ false → mismatch ≡ None
proved_of h None out asked = refl
proved_of h (Some m) out asked = absurd (true≢false (sym (unproved_out h m out) ∙ asked))

-- ---- what is shown

-- what is told of the notes is so, since it is what was found
pub kept_of : (program made : Instructions) (h : Hardening) (found : Option CertificateView) (notes : Notes) (kept : KeptMeaning) (untouched : ℕ) (mismatch : Option Mismatch) → kept.bounds ≡ bounds_of h untouched
    → kept.turns ≡ shown_turns notes (bounds_of h untouched).turns → kept.mismatch ≡ mismatch → AreLeft h untouched → IsLeftSaid h untouched kept.said → IsEvidence program made found notes (bounds_of h untouched) mismatch → (h.unproved ≡ false → mismatch ≡ None)
    → IfSome h.certificate (λ _. IsSome found) → IsKept program made h found notes kept
kept_of program made h found notes kept untouched mismatch runs turns fails left said shown proved there = record {
  untouched = untouched;
  left = left;
  said = said;
  bounds_are = runs;
  turns_are = subst (λ b. kept.turns ≡ shown_turns notes b.turns) (sym runs) turns;
  shown = subst (λ b. IsEvidence program made found notes b kept.mismatch) (sym runs) (subst (IsEvidence program made found notes (bounds_of h untouched)) (sym fails) shown);
  proved = λ asked. subst (λ m. m ≡ None) (sym fails) (proved asked);
  there = there;
}

kept_means : (program made : Instructions) (found : Option CertificateView) (notes : Notes) (bounds : Bounds) (mismatch : Option Mismatch) → IsEvidence program made found notes bounds mismatch
    → IfNone mismatch (Keeps program made notes bounds)
kept_means program made found notes bounds None shows = shows.keeps
kept_means program made found notes bounds (Some m) fails = tt

-- ---- behind OUT

-- what was made of the program at the name
pub made_of : {S : Type 0} (opening : Opening S) (old : S) (h : Hardening) (new : S) (program made : Instructions) (found : Option CertificateView) (notes : Notes) (kept : KeptMeaning)
    → LoadsImage opening h.order old h.input.now new program → IsProgram made.list → IsKept program made h found notes kept → Hardens opening old h new made found notes kept
made_of opening old h new program made found notes kept loads is_program is_kept = record {
  program = program;
  loads = loads;
  is_program = is_program;
  is_kept = is_kept;
  keeps = kept_means program made found notes kept.bounds kept.mismatch is_kept.shown;
}

-- the texts are those of which that is said
texts_as : (h : Hardening) (found : Option CertificateView) (text other changes : List ℕ) → IfSome h.notes (λ _. text ≡ other) → texts_of h found text changes ≡ texts_of h found other changes
texts_as h found text other changes same =
    subst (λ t. texts_of h found text changes ≡ (named h.certificate (found_text found) ++ (t ++ named h.changes changes))) (named_as h.notes text other same) refl

pub all_stand : {S : Type 0} (opening : Opening S) (making : Making S) (old : S) (h : Hardening) (between put new : S) (made : Instructions) (found : Option CertificateView) (notes : Notes) (kept : KeptMeaning)
    (text changes : List ℕ) → Hardens opening old h between made found notes kept → making between h.output.now (image made.order made.list) true put → IfSome h.notes (λ _. text ≡ notes_text kept.bounds notes)
    → TextsStand making put (texts_of h found text changes) new → AllStand opening making old h new kept
all_stand opening making old h between put new made found notes kept text changes hardens whole same stand =
    (between, put, made, found, notes, changes, hardens, whole, subst (λ t. TextsStand making put t new) (texts_as h found text (notes_text kept.bounds notes) changes same) stand)

pub fail_behind : {S : Type 0} (opening : Opening S) (making : Making S) (old : S) (h : Hardening) (between put new : S) (made : Instructions) (found : Option CertificateView) (notes : Notes) (kept : KeptMeaning)
    (text changes : List ℕ) (f : Failure) → Hardens opening old h between made found notes kept → making between h.output.now (image made.order made.list) true put
    → IfSome h.notes (λ _. text ≡ notes_text kept.bounds notes) → TextsFail making put (texts_of h found text changes) new f → TextsFailBehind opening making old h new f
fail_behind opening making old h between put new made found notes kept text changes f hardens whole same fails =
    (between, put, made, found, notes, kept, changes, hardens, whole, subst (λ t. TextsFail making put t new f) (texts_as h found text (notes_text kept.bounds notes) changes same) fails)

pub texts_unput : {S A : Type 0} (result : Result A Failure) (opening : Opening S) (making : Making S) (old : S) (h : Hardening) (between put new : S) (made : Instructions) (found : Option CertificateView) (notes : Notes)
    (kept : KeptMeaning) (text changes : List ℕ) → Hardens opening old h between made found notes kept → making between h.output.now (image made.order made.list) true put
    → IfSome h.notes (λ _. text ≡ notes_text kept.bounds notes) → IfErr result (TextsFail making put (texts_of h found text changes) new) → IfErr result (TextsFailBehind opening making old h new)
texts_unput (Ok s) opening making old h between put new made found notes kept text changes hardens whole same fails = tt
texts_unput (Err f) opening making old h between put new made found notes kept text changes hardens whole same fails =
    fail_behind opening making old h between put new made found notes kept text changes f hardens whole same fails

-- the image can't be read
pub unread : {S : Type 0} (opening : Opening S) (making : Making S) (old : S) (h : Hardening) (new : S) (f : Failure) → ImageFails opening old h.input.now new f → IsQuiet f → HardenFails opening making old h new f
unread opening making old h new (CannotRead name) fails quiet = fails
unread opening making old h new (CannotWrite name) fails quiet = absurd quiet
unread opening making old h new NoMemory fails quiet = tt
unread opening making old h new f fails quiet = absurd fails

fails_as : {S : Type 0} (opening : Opening S) (making : Making S) (old : S) (h : Hardening) (new : S) (f : Failure) → IsOfWriting f → TextsFailBehind opening making old h new f → HardenFails opening making old h new f
fails_as opening making old h new (CannotWrite name) writing fails = inr fails
fails_as opening making old h new NoMemory writing fails = tt
fails_as opening making old h new f writing fails = absurd writing

pub texts_fail : {S A : Type 0} (result : Result A Failure) (opening : Opening S) (making : Making S) (old : S) (h : Hardening) (new : S) → IfErr result (TextsFailBehind opening making old h new)
    → IfErr result (HardenFails opening making old h new)
texts_fail (Ok s) opening making old h new fails = tt
texts_fail (Err f) opening making old h new (between, put, made, found, notes, kept, changes, hardens, whole, unput) =
    fails_as opening making old h new f (texts_fault making put (texts_of h found (notes_text kept.bounds notes) changes) new f unput)
    (between, put, made, found, notes, kept, changes, hardens, whole, unput)

pub out_fails : {S A : Type 0} (result : Result A Failure) (opening : Opening S) (making : Making S) (old : S) (h : Hardening) (between new : S) (made : Instructions) (found : Option CertificateView) (notes : Notes)
    (kept : KeptMeaning) → Hardens opening old h between made found notes kept → IfErr result (NotPut making between h.output (image made.order made.list) new) → IfErr result (HardenFails opening making old h new)
out_fails (Ok s) opening making old h between new made found notes kept hardens fails = tt
out_fails (Err f) opening making old h between new made found notes kept hardens (inl is, left) =
    subst (HardenFails opening making old h new) (sym is) (inl (refl, (between, made, found, notes, kept, hardens, left)))
out_fails (Err f) opening making old h between new made found notes kept hardens (inr is, left) = subst (HardenFails opening making old h new) (sym is) tt
