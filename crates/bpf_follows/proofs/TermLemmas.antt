-- Terms that are spelled are read again.
use Rattle.std.proofs.Common.{◌≡◌, ℕ, zero, suc, ◌+◌, ◌-◌, ◌^◌, ◌<◌, ◌≤◌, ◌⊎◌, inl, inr, Bool, true, false, eqb, List, [], ◌∷◌, ◌++◌, Some, None, refl, sym, ap, subst, append_assoc, arith}
use Rattle.std.specs.Prelude.{codes, decimal, nat_lt, if◌then◌else◌}
use Rattle.std.proofs.lemmas.Bool.{lt-ltb, le-ltb, ltb-true, ltb-false, ne_eqb}
use Rattle.bpf_streams.specs.Words.{behind}
use Rattle.bpf_kept.specs.declared.notes.Term.{Term}
use Rattle.bpf_follows.specs.NotesText.{toggled, is_far, signed_text, moved_text, term_text}
use Rattle.bpf_follows.specs.code.Reading.{is_digit}
use Rattle.bpf_follows.specs.code.Reading.{number_in, opposite, minus_in, signed_in, far_in, moved_in, term_in}
use Rattle.bpf_follows.proofs.Decimals.{NoDigit, number_again, no_word}

-- ---- what stands behind

-- a byte that ends what is in front
pub record Ends (c : ℕ) : Type 0 where
  pub digit : is_digit c ≡ false
  pub plus : eqb c 43 ≡ false
  pub minus : eqb c 45 ≡ false
  pub equals : eqb c 61 ≡ false
  pub tilde : eqb c 126 ≡ false

-- such a byte stands at the front
pub record Front (text : List ℕ) : Type 0 where
  pub c : ℕ
  pub cs : List ℕ
  pub text_is : text ≡ c ∷ cs
  pub ends : Ends c

pub no_digit : (text : List ℕ) → Front text → NoDigit text
no_digit text f = record { c = f.c; cs = f.cs; text_is = f.text_is; digit = f.ends.digit }

-- neither of two words stands there, and no digit
record Stops (plus minus text : List ℕ) : Type 0 where
  no_plus : behind plus text ≡ None
  no_minus : behind minus text ≡ None
  digit : NoDigit text

-- ---- signed numbers

pub number_none : (word text : List ℕ) → behind word text ≡ None → number_in word text ≡ None
unfolding number_in
number_none word text none = rw none refl

minus_again : (minus : List ℕ) (m : ℕ) (tail : List ℕ) → m < 2 ^ 64 → NoDigit tail → minus_in minus (minus ++ (decimal m ++ tail)) ≡ Some (opposite m, tail)
unfolding minus_in
minus_again minus m tail small f = rw (number_again minus m tail small f) refl

minus_none : (minus text : List ℕ) → behind minus text ≡ None → minus_in minus text ≡ None
unfolding minus_in
minus_none minus text none = rw (number_none minus text none) refl

opposite_again : (n m : ℕ) → n < 2 ^ 64 → 0 < n → m ≡ 2 ^ 64 - n → opposite m ≡ n
opposite_again n m small some e = let back : 2 ^ 64 - m ≡ n = omega (arith, e) in rw (ne_eqb m 0 (λ z. omega (arith, e, z))) back

signed_again : (plus minus : List ℕ) → ((t : List ℕ) → behind plus (minus ++ t) ≡ None) → (n : ℕ) → n < 2 ^ 64 → (tail : List ℕ) → Stops plus minus tail → signed_in plus minus (signed_text plus minus n ++ tail) ≡ Some (n, tail)
unfolding signed_in signed_text
signed_again plus minus apart zero small tail s = rw (number_none plus tail s.no_plus, minus_none minus tail s.no_minus) refl
signed_again plus minus apart (suc n) small tail s = by_test (nat_lt (suc n) (2 ^ 63)) refl
  where
    by_test : (b : Bool) → nat_lt (suc n) (2 ^ 63) ≡ b → signed_in plus minus ((if b then plus ++ decimal (suc n) else minus ++ decimal (2 ^ 64 - suc n)) ++ tail) ≡ Some (suc n, tail)
    by_test true e = rw (append_assoc plus (decimal (suc n)) tail, number_again plus (suc n) tail small s.digit) refl
    by_test false e =
        rw (
          append_assoc minus (decimal (2 ^ 64 - suc n)) tail,
          number_none plus (minus ++ (decimal (2 ^ 64 - suc n) ++ tail)) (apart (decimal (2 ^ 64 - suc n) ++ tail)),
          minus_again minus (2 ^ 64 - suc n) tail (omega arith) s.digit,
        ) (ap (λ m. Some (m, tail)) (opposite_again (suc n) (2 ^ 64 - suc n) small (omega arith) refl))

-- nothing, or one of two words and a number
Form : List ℕ → List ℕ → List ℕ → Type 0
Form plus minus text = (text ≡ []) ⊎ (((m : ℕ) × (m < 2 ^ 64) × (text ≡ plus ++ decimal m)) ⊎ ((m : ℕ) × (m < 2 ^ 64) × (text ≡ minus ++ decimal m)))

signed_form : (plus minus : List ℕ) (n : ℕ) → n < 2 ^ 64 → Form plus minus (signed_text plus minus n)
unfolding signed_text Form
signed_form plus minus zero small = inl refl
signed_form plus minus (suc n) small = by_test (nat_lt (suc n) (2 ^ 63))
  where
    by_test : (b : Bool) → Form plus minus (if b then plus ++ decimal (suc n) else minus ++ decimal (2 ^ 64 - suc n))
    by_test true = inr (inl (suc n, small, refl))
    by_test false = inr (inr (2 ^ 64 - suc n, omega arith, refl))

-- ---- what is added

toggled_again : (n : ℕ) → n < 2 ^ 64 → toggled (toggled n) ≡ n
toggled_again n small = by_test (nat_lt n (2 ^ 63)) refl
  where
    by_test : (b : Bool) → nat_lt n (2 ^ 63) ≡ b → toggled (if b then n + 2 ^ 63 else n - 2 ^ 63) ≡ n
    by_test true e = let back : n + 2 ^ 63 - 2 ^ 63 ≡ n = omega arith in rw (le-ltb (n + 2 ^ 63) (2 ^ 63) (omega arith)) back
    by_test false e =
        let large : 2 ^ 63 ≤ n = ltb-false n (2 ^ 63) e in
        let back : n - 2 ^ 63 + 2 ^ 63 ≡ n = omega (arith, large) in
        rw (lt-ltb (n - 2 ^ 63) (2 ^ 63) (omega (arith, large))) back

toggled_small : (n : ℕ) → n < 2 ^ 64 → toggled n < 2 ^ 64
toggled_small n small = by_test (nat_lt n (2 ^ 63)) refl
  where
    by_test : (b : Bool) → nat_lt n (2 ^ 63) ≡ b → (if b then n + 2 ^ 63 else n - 2 ^ 63) < 2 ^ 64
    by_test true e = let low : n < 2 ^ 63 = ltb-true n (2 ^ 63) e in omega (arith, low)
    by_test false e = omega arith

moved_signed : (n : ℕ) → n < 2 ^ 64 → (c : ℕ) (rest : List ℕ) → Ends c → signed_in (codes "+") (codes "-") (signed_text (codes "+") (codes "-") n ++ c ∷ rest) ≡ Some (n, c ∷ rest)
unfolding behind
moved_signed n small c rest h =
    signed_again (codes "+") (codes "-") (λ t. refl) n small (c ∷ rest) (record { no_plus = rw (h.plus) refl; no_minus = rw (h.minus) refl; digit = record { c = c; cs = rest; text_is = refl; digit = h.digit } })

-- where nothing else is said, a sign stands in front of a digit
no_context : (text : List ℕ) → Form (codes "+") (codes "-") text → (c : ℕ) (rest : List ℕ) → Ends c → behind (codes "-context") (text ++ c ∷ rest) ≡ None
unfolding Form behind
no_context text (inl e) c rest h = rw (e, h.minus) refl
no_context text (inr (inl (m, small, e))) c rest h = rw e refl
no_context text (inr (inr (m, small, e))) c rest h = rw (e, no_word 99 (codes "ontext") m (c ∷ rest) small refl) refl

behind_context : (text : List ℕ) → behind (codes "-context") (codes "-context" ++ text) ≡ Some text
unfolding behind
behind_context text = refl

far_again : (n : ℕ) → n < 2 ^ 64 → (c : ℕ) (rest : List ℕ) → Ends c → far_in (signed_text (codes "+") (codes "-") (toggled n) ++ c ∷ rest) ≡ Some (n, c ∷ rest)
unfolding far_in
far_again n small c rest h = rw (moved_signed (toggled n) (toggled_small n small) c rest h) (ap (λ m. Some (m, c ∷ rest)) (toggled_again n small))

moved_again : (n : ℕ) → n < 2 ^ 64 → (c : ℕ) (rest : List ℕ) → Ends c → moved_in (moved_text n ++ c ∷ rest) ≡ Some (n, c ∷ rest)
unfolding moved_in moved_text
moved_again n small c rest h = by_test (is_far n)
  where
    by_test : (b : Bool) → moved_in ((if b then codes "-context" ++ signed_text (codes "+") (codes "-") (toggled n) else signed_text (codes "+") (codes "-") n) ++ c ∷ rest) ≡ Some (n, c ∷ rest)
    by_test true =
        rw (behind_context (signed_text (codes "+") (codes "-") (toggled n) ++ c ∷ rest)) (far_again n small c rest h)
    by_test false = rw (no_context (signed_text (codes "+") (codes "-") n) (signed_form (codes "+") (codes "-") n small) c rest h) (moved_signed n small c rest h)

-- ---- terms

-- no frame is named there
frame_stops : (text : List ℕ) → Form (codes "+") (codes "-") text → (c : ℕ) (rest : List ℕ) → Ends c → Stops (codes "-frame*") (codes "+frame*") (text ++ c ∷ rest)
unfolding Form behind
frame_stops text (inl e) c rest h =
    subst (λ t. Stops (codes "-frame*") (codes "+frame*") (t ++ c ∷ rest)) (sym e)
    (record { no_plus = rw (h.minus) refl; no_minus = rw (h.plus) refl; digit = record { c = c; cs = rest; text_is = refl; digit = h.digit } })
frame_stops text (inr (inl (m, small, e))) c rest h =
    subst (λ t. Stops (codes "-frame*") (codes "+frame*") (t ++ c ∷ rest)) (sym e)
    (record { no_plus = refl; no_minus = no_word 102 (codes "rame*") m (c ∷ rest) small refl; digit = record { c = 43; cs = decimal m ++ c ∷ rest; text_is = refl; digit = refl } })
frame_stops text (inr (inr (m, small, e))) c rest h =
    subst (λ t. Stops (codes "-frame*") (codes "+frame*") (t ++ c ∷ rest)) (sym e)
    (record { no_plus = no_word 102 (codes "rame*") m (c ∷ rest) small refl; no_minus = refl; digit = record { c = 45; cs = decimal m ++ c ∷ rest; text_is = refl; digit = refl } })

moved_stops : (n : ℕ) → n < 2 ^ 64 → (c : ℕ) (rest : List ℕ) → Ends c → Stops (codes "-frame*") (codes "+frame*") (moved_text n ++ c ∷ rest)
unfolding moved_text behind
moved_stops n small c rest h = by_test (is_far n)
  where
    by_test : (b : Bool) → Stops (codes "-frame*") (codes "+frame*") ((if b then codes "-context" ++ signed_text (codes "+") (codes "-") (toggled n) else signed_text (codes "+") (codes "-") n) ++ c ∷ rest)
    by_test true =
        record { no_plus = refl; no_minus = refl; digit = record { c = 45; cs = codes "context" ++ (signed_text (codes "+") (codes "-") (toggled n) ++ c ∷ rest); text_is = refl; digit = refl } }
    by_test false = frame_stops (signed_text (codes "+") (codes "-") n) (signed_form (codes "+") (codes "-") n small) c rest h

frame_apart : (t : List ℕ) → behind (codes "-frame*") (codes "+frame*" ++ t) ≡ None
unfolding behind
frame_apart t = refl

pub term_again : (t : Term) → t.frames < 2 ^ 64 → t.moved < 2 ^ 64 → (c : ℕ) (rest : List ℕ) → Ends c → term_in (term_text t ++ c ∷ rest) ≡ Some (t, c ∷ rest)
unfolding term_in term_text
term_again t frames moved c rest h =
    rw (
      append_assoc (signed_text (codes "-frame*") (codes "+frame*") t.frames) (moved_text t.moved) (c ∷ rest),
      signed_again (codes "-frame*") (codes "+frame*") frame_apart t.frames frames (moved_text t.moved ++ c ∷ rest) (moved_stops t.moved moved c rest h),
      moved_again t.moved moved c rest h,
    ) refl

form_front : (text : List ℕ) → Form (codes "-frame*") (codes "+frame*") text → (tail : List ℕ) → NoDigit tail → NoDigit (text ++ tail)
unfolding Form
form_front text (inl e) tail f = subst (λ x. NoDigit (x ++ tail)) (sym e) f
form_front text (inr (inl (m, small, e))) tail f = subst (λ x. NoDigit (x ++ tail)) (sym e) (record { c = 45; cs = (codes "frame*" ++ decimal m) ++ tail; text_is = refl; digit = refl })
form_front text (inr (inr (m, small, e))) tail f = subst (λ x. NoDigit (x ++ tail)) (sym e) (record { c = 43; cs = (codes "frame*" ++ decimal m) ++ tail; text_is = refl; digit = refl })

pub term_front : (t : Term) → t.frames < 2 ^ 64 → t.moved < 2 ^ 64 → (c : ℕ) (rest : List ℕ) → Ends c → NoDigit (term_text t ++ c ∷ rest)
unfolding term_text
term_front t frames moved c rest h =
    subst NoDigit (sym (append_assoc (signed_text (codes "-frame*") (codes "+frame*") t.frames) (moved_text t.moved) (c ∷ rest)))
    (form_front (signed_text (codes "-frame*") (codes "+frame*") t.frames) (signed_form (codes "-frame*") (codes "+frame*") t.frames frames) (moved_text t.moved ++ c ∷ rest)
    (moved_stops t.moved moved c rest h).digit)
