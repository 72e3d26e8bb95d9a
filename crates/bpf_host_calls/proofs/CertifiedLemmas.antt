-- What is certified of an image, from what its parts tell.
use Rattle.std.proofs.Common.{◌≡◌, ◌⊎◌, ◌==◌, ◌∙◌, ℕ, ◌<◌, Bool, true, false, List, Option, Some, None, Result, Ok, Err, IfOk, IfSome, IsErrAnd, IsTrue, MatchResult, if◌then◌else◌, ◌≤◌, length, refl, sym, ap, subst, inl, inr, eqb-true, arith}
use Rattle.std.proofs.lemmas.Bool.{cond-true, false≢true}
use Rattle.bpf_insn.specs.Instruction.{Instructions}
use Rattle.bpf_insn.specs.Image.{IsImage, IsProgram}
use Rattle.bpf_insn.specs.Laws.{IsImageOfProgram}
use Rattle.bpf_insn.specs.Limits.{frame_bytes}
use Rattle.bpf_insn.specs.declared.order.Order.{Order}
use Rattle.bpf_cert.specs.Spelling.{certificate_text}
use Rattle.bpf_check.specs.Verdicts.{Promises}
use Rattle.bpf_safety.specs.Certified.{Certified as IsCertified}
use Rattle.bpf_follows.specs.NotesText.{notes_text}
use Rattle.bpf_kept.specs.declared.bounds.Turns.{Turns}
use Rattle.bpf_kept.specs.declared.bounds.Turns.TheVariants.{Any, Most}
use Rattle.bpf_kept.specs.Matching.{has_counter, shown_turns}
use Rattle.bpf_certify.specs.Certified.{IsPaid, IsRewritten, StandsFor, told_turns}
use Rattle.bpf_certify.specs.declared.certified.Certified.{Certified}
use Rattle.bpf_certify.specs.declared.certified.Rewritten.{Rewritten}
use Rattle.bpf_certify.specs.declared.error.CertifyError.{CertifyError}
use Rattle.bpf_host_calls.specs.Certified.{IsCertifiedAs, IsImageMade, TellsMade, turns_wished, wish_of}
use Rattle.bpf_host_calls.specs.Followed.{IsFollowed, following_of}
use Rattle.bpf_host_calls.specs.Hardened.{bounds_of}
use Rattle.bpf_host_calls.specs.Told.{number_of}
use Rattle.bpf_host_calls.specs.ToldAdvice.{TellsCertify}
use Rattle.bpf_host_calls.specs.declared.certification.BpfWish.{BpfWish}
use Rattle.bpf_host_calls.specs.declared.certification.BpfCertified.{BpfCertified}
use Rattle.bpf_host_calls.specs.declared.refusals.Unmade.{Unmade}
use Rattle.bpf_host_calls.proofs.FollowedLemmas.{IsReadFrom, followed_by, read_from}
use Rattle.bpf_host_calls.proofs.ImageLemmas.{in_order}

-- ---- what is told

most≢any : (n : ℕ) → Most n ≡ Any → ⊥
most≢any n same = false≢true (ap is_any same)
  where
    is_any : Turns → Bool
    is_any Any = true
    is_any (Most n) = false

picked : (b : Bool) (wished told : ℕ) → (b ≡ true → wished ≡ 0) → IfSome (if b then None else Some wished) (λ turns. told ≡ turns) → 0 < wished → told ≡ wished
picked true wished told none same some = let is = none refl in absurd (omega arith)
picked false wished told none same some = same

turns_told : (wished told : ℕ) → IfSome (turns_wished wished) (λ turns. told ≡ turns) → 0 < wished → told ≡ wished
turns_told wished told same some = picked (wished == 0) wished told (eqb-true wished 0) same some

shown_told : (b : Bool) → IsTrue b → number_of b ≡ 1
shown_told true shown = refl
shown_told false shown = cc

told_shown : (b : Bool) → number_of b ≡ 1 → IsTrue b
told_shown true shown = refl
told_shown false shown = absurd (omega arith)

-- any number, or those for which it is hardened
one_of_both : (wished : ℕ) (r : Rewritten) → r.turns ≡ wished → (told_turns r ≡ Any) ⊎ (told_turns r ≡ Most wished)
one_of_both wished r same = by_shown r.is_shown (has_counter r.notes.items)
  where
    by_shown : (b c : Bool) → ((if b then (if c then Most r.turns else Any) else Most r.turns) ≡ Any) ⊎ ((if b then (if c then Most r.turns else Any) else Most r.turns) ≡ Most wished)
    by_shown true true = inr (ap Most same)
    by_shown true false = inl refl
    by_shown false c = inr (ap Most same)

-- any number where it is shown
shown_any : (r : Rewritten) → told_turns r ≡ Any → number_of r.is_shown ≡ 1
shown_any r any = by_shown r.is_shown any
  where
    by_shown : (b : Bool) → (if b then shown_turns r.notes.items r.turns else Most r.turns) ≡ Any → number_of b ≡ 1
    by_shown true same = refl
    by_shown false same = absurd (most≢any r.turns same)

-- ---- what is promised

promised : (order : Order) (size most bound : ℕ) (q : Instructions) (c : Certified) (bytes text : List ℕ) → q.order ≡ order → IsImageOfProgram order bytes q.list → IsPaid q c.certificate size most bound → text ≡ certificate_text c.certificate → Promises order bytes text size size bound
promised order size most bound q c bytes text same is_image paid text_is =
    record {
      certificate = c.certificate;
      certifies = record {
        program = q.list;
        is_image = is_image;
        spelled = record { valid = paid.certified.certificate; spelled = text_is };
        certified = subst (λ i. IsCertified i c.certificate) (in_order order q same) paid.certified.certified;
      };
      least_is = sym paid.least;
      most_is = sym paid.greatest;
      bound_is = sym paid.bound_is;
    }

-- ---- what is shown of a hardened one

kept : (order : Order) (image : List ℕ) (size : ℕ) (w : BpfWish) (told : BpfCertified) (bytes text : List ℕ) (p : Instructions) (c : Certified) (r : Rewritten) → IsReadFrom order image p → IsReadFrom order bytes r.hardened.program → IsRewritten p size (wish_of w) c r → text ≡ certificate_text c.certificate → told.bound ≡ c.bound → TellsMade (Some r) told → IsTrue r.is_shown → (notes : List ℕ) × IsFollowed order image bytes notes text (following_of (bounds_of size w.padded told.turns told.untouched) (told_turns r) told.bound)
kept order image size w told bytes text p c r old_read new_read stands text_is bound_is tells shown =
    let runs = bounds_of size w.padded r.turns r.untouched in
    let by = stands.paid.certified in
    let bound : told.bound ≡ c.certificate.steps = bound_is ∙ sym stands.paid.bound_is in
    let turns : told_turns r ≡ shown_turns r.notes.items r.turns = cond-true r.is_shown (shown_turns r.notes.items r.turns) (Most r.turns) shown in
    let told_is : following_of (bounds_of size w.padded told.turns told.untouched) (told_turns r) told.bound ≡ following_of runs (shown_turns r.notes.items r.turns) c.certificate.steps = cc (turns, tells.3, bound) in
    (notes_text runs r.notes.items, followed_by order image bytes (notes_text runs r.notes.items) text p r.hardened.program runs r.notes.items c.certificate (following_of (bounds_of size w.padded told.turns told.untouched) (told_turns r) told.bound) old_read new_read refl (record { valid = by.certificate; spelled = text_is }) by (stands.matches shown) (stands.keeps shown) told_is)

-- ---- the image that stands as it is, and a hardened one

pub certified_as : (order : Order) (image : List ℕ) (size : ℕ) (w : BpfWish) (told : BpfCertified) (bytes text : List ℕ) (p : Instructions) (c : Certified) (rewritten : Option Rewritten) → IsImage order p.list image → p.order ≡ order → IsProgram p.list → StandsFor p size (wish_of w) c rewritten → ((w.unproved == 1) ≡ false → IfSome rewritten (λ r. IsTrue r.is_shown)) → IsImageMade image rewritten bytes → text ≡ certificate_text c.certificate → told.image_len ≡ length bytes → told.certificate_len ≡ length text → told.bound ≡ c.bound → TellsMade rewritten told → IsCertifiedAs order image size w told bytes text
certified_as order image size w told bytes text p c None is_image same program stands shown made text_is image_length text_length bound_is tells =
    record {
      program = p.list;
      is_image = record { program = program; bytes_are = is_image.bytes_are };
      image_length = image_length;
      text_length = text_length;
      promises = subst (Promises order bytes text size size) (sym bound_is) (promised order size w.bound c.bound p c bytes text same (record { program = program; bytes_are = made ∙ is_image.bytes_are }) stands.1 text_is);
      paid = subst (λ b. b ≤ w.bound) (sym bound_is) stands.1.within;
      is_made = inl (record { plain = stands.0; same = made; told_is = tells });
    }
certified_as order image size w told bytes text p c (Some r) is_image same program stands shown made text_is image_length text_length bound_is tells =
    let q = r.hardened.program in
    let order_is : q.order ≡ order = stands.order_is ∙ same in
    let is_new : IsImageOfProgram order bytes q.list = subst (λ o. IsImageOfProgram o bytes q.list) order_is made in
    let old_read : IsReadFrom order image p = read_from order image p is_image same program in
    let new_read : IsReadFrom order bytes q = record { is_image = is_new; order_is = order_is } in
    record {
      program = p.list;
      is_image = record { program = program; bytes_are = is_image.bytes_are };
      image_length = image_length;
      text_length = text_length;
      promises = subst (Promises order bytes text size size) (sym bound_is) (promised order size w.bound c.bound q c bytes text order_is is_new stands.paid text_is);
      paid = subst (λ b. b ≤ w.bound) (sym bound_is) stands.paid.within;
      is_made = inr (record {
        told_is = tells.0;
        turns = told_turns r;
        told_turns_are = tells.2;
        turns_are = λ some. one_of_both w.turns r (turns_told w.turns r.turns stands.turns_are some);
        any_shown = λ any. tells.1 ∙ shown_any r any;
        few = subst (λ n. n ≤ frame_bytes) (sym tells.3) stands.few;
        shown = λ asked. tells.1 ∙ shown_told r.is_shown (shown asked);
        keeps = λ one. kept order image size w told bytes text p c r old_read new_read stands text_is bound_is tells (told_shown r.is_shown (sym tells.1 ∙ one));
      });
    }

-- ---- what the call below answered

pub told_ok : (found : Result Certified CertifyError) (told : Result Certified Unmade) (d : Certified) (Holds : Certified → Type 0) → told ≡ Ok d → MatchResult found (λ x. told ≡ Ok x) (λ e. IsErrAnd told (TellsCertify e)) → IfOk found Holds → Holds d
told_ok (Ok x) told d Holds was same holds = let is : x ≡ d = cc in subst Holds is holds
told_ok (Err e) told d Holds was same holds = absurd (subst (λ t. IsErrAnd t (TellsCertify e)) was same)
