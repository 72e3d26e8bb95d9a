-- The least flaws of lists.
use Rattle.std.proofs.Common.{◌≡◌, ℕ, ◌+◌, ◌<◌, ◌≤◌, ◌⊎◌, ◌||◌, Bool, true, false, List, [], ◌∷◌, ◌++◌, length, map, take, get_or, Option, Some, None, refl, sym, ap, subst, ◌∙◌, arith}
use mathlib.Core.Logic.{inl, inr, ⊎_elim}
use Rattle.std.specs.List.{Contains, flat_map}
use Rattle.std.proofs.lemmas.List.Elements.{Contains-append_left, Contains-append_right, Contains-append_cases}
use Rattle.std.proofs.lemmas.List.{take_more, take_all, map-append, append-nil}
use Rattle.std.proofs.lemmas.Grind.{flat_map-append}
use Rattle.bpf_safety.specs.Flaw.{at, number_if}
use Rattle.bpf_check.specs.code.Least.{IsAtMost, IsLeastIn}

at_most_across : (a b c : ℕ × ℕ) → IsAtMost a b → IsAtMost b c → IsAtMost a c
at_most_across a b c (inl h) (inl k) = inl (omega arith)
at_most_across a b c (inl h) (inr k) = inl (omega arith)
at_most_across a b c (inr h) (inl k) = inl (omega arith)
at_most_across a b c (inr h) (inr k) = inr (omega arith, omega arith)

-- ---- lists joined

pub least_right : (xs ys : List (ℕ × ℕ)) (o : Option (ℕ × ℕ)) → IsLeastIn xs None → IsLeastIn ys o → IsLeastIn (xs ++ ys) o
least_right xs ys None none h = λ a m. ⊎_elim (none a) (h a) (Contains-append_cases xs ys a m)
least_right xs ys (Some a) none h =
    (Contains-append_right xs ys a h.0, λ b m. ⊎_elim (λ l. absurd (none b l)) (h.1 b) (Contains-append_cases xs ys b m))

pub least_left : (xs ys : List (ℕ × ℕ)) (a : ℕ × ℕ) → IsLeastIn xs (Some a) → IsLeastIn ys None → IsLeastIn (xs ++ ys) (Some a)
least_left xs ys a h none =
    (Contains-append_left xs ys a h.0, λ b m. ⊎_elim (h.1 b) (λ r. absurd (none b r)) (Contains-append_cases xs ys b m))

pub least_both : (xs ys : List (ℕ × ℕ)) (a b c : ℕ × ℕ) → (c ≡ a) ⊎ (c ≡ b) → IsAtMost c a → IsAtMost c b → IsLeastIn xs (Some a) → IsLeastIn ys (Some b) → IsLeastIn (xs ++ ys) (Some c)
least_both xs ys a b c one first second h k = (
  ⊎_elim (λ e. Contains-append_left xs ys c (subst (Contains xs) (sym e) h.0)) (λ e. Contains-append_right xs ys c (subst (Contains ys) (sym e) k.0)) one,
  λ d m. ⊎_elim (λ l. at_most_across c a d first (h.1 d l)) (λ r. at_most_across c b d second (k.1 d r)) (Contains-append_cases xs ys d m),
)

-- ---- numbers at one slot

pub at-append : (slot : ℕ) (ms ns : List ℕ) → at slot (ms ++ ns) ≡ at slot ms ++ at slot ns
at-append slot [] ns = refl
at-append slot (m ∷ ms) ns = ap (λ l. (slot, m) ∷ l) (at-append slot ms ns)

least_same : (xs ys : List (ℕ × ℕ)) (o : Option (ℕ × ℕ)) → xs ≡ ys → IsLeastIn xs o → IsLeastIn ys o
least_same xs ys o e h = subst (λ l. IsLeastIn l o) e h

pub least_two : (slot m n : ℕ) (a b a' b' : Bool) (o : Option (ℕ × ℕ)) → a' ≡ a → b' ≡ b → IsLeastIn (at slot (number_if m a') ++ at slot (number_if n b')) o → IsLeastIn (at slot (number_if m a ++ number_if n b)) o
least_two slot m n a b a' b' o p q h =
    least_same _ _ o (sym (at-append slot (number_if m a) (number_if n b)))
    (subst (λ x. IsLeastIn (at slot (number_if m x) ++ at slot (number_if n b)) o) p (subst (λ y. IsLeastIn (at slot (number_if m a') ++ at slot (number_if n y)) o) q h))

pub least_three : (slot l m n : ℕ) (a b c a' b' c' : Bool) (o : Option (ℕ × ℕ)) → a' ≡ a → b' ≡ b → c' ≡ c → IsLeastIn (at slot (number_if l a') ++ at slot (number_if m b') ++ at slot (number_if n c')) o → IsLeastIn (at slot (number_if l a ++ number_if m b ++ number_if n c)) o
least_three slot l m n a b c a' b' c' o p q r h =
    least_same _ _ o
    (ap (λ x. at slot (number_if l x) ++ at slot (number_if m b') ++ at slot (number_if n c')) p
    ∙ ap (λ x. at slot (number_if l a) ++ at slot (number_if m x) ++ at slot (number_if n c')) q
    ∙ ap (λ x. at slot (number_if l a) ++ at slot (number_if m b) ++ at slot (number_if n x)) r
    ∙ ap (λ xs. xs ++ at slot (number_if n c)) (sym (at-append slot (number_if l a) (number_if m b)))
    ∙ sym (at-append slot (number_if l a ++ number_if m b) (number_if n c)))
    h

-- ---- a loop over what a view shows

pub least_more : {A B : Type 0} (f : B → List (ℕ × ℕ)) (view : A → B) (xs : List A) (i : ℕ) (x : A) (o : Option (ℕ × ℕ)) → i < length xs → x ≡ get_or xs i x → IsLeastIn (flat_map f (map view (take i xs)) ++ f (view x)) o → IsLeastIn (flat_map f (map view (take (i + 1) xs))) o
least_more f view xs i x o h e least =
    least_same _ _ o
    (sym
    (ap (λ l. flat_map f (map view l)) (take_more xs i x h ∙ ap (λ y. take i xs ++ y ∷ []) (sym e))
    ∙ ap (flat_map f) (map-append view (take i xs) (x ∷ []))
    ∙ flat_map-append f (map view (take i xs)) (view x ∷ [])
    ∙ ap (λ l. flat_map f (map view (take i xs)) ++ l) (append-nil (f (view x)))))
    least

pub least_of_all : {A B : Type 0} (f : B → List (ℕ × ℕ)) (view : A → B) (xs : List A) (ys : List B) (i : ℕ) (o : Option (ℕ × ℕ)) → length xs ≤ i → map view xs ≡ ys → IsLeastIn (flat_map f (map view (take i xs))) o → IsLeastIn (flat_map f ys) o
least_of_all f view xs ys i o h e least =
    least_same _ _ o (ap (λ l. flat_map f (map view l)) (take_all i xs h) ∙ ap (flat_map f) e) least

-- ---- where no condition fails

-- nothing is added by conditions that don't fail
pub least_beside : (slot l m n k : ℕ) (a b c d : Bool) (xs : List (ℕ × ℕ)) (o : Option (ℕ × ℕ)) → (a || b || c || d) ≡ false → IsLeastIn xs o → IsLeastIn (at slot (number_if l a) ++ xs ++ at slot (number_if m b) ++ at slot (number_if n c) ++ at slot (number_if k d)) o
least_beside slot l m n k false false false false xs o e h = least_same xs (xs ++ [] ++ [] ++ []) o (sym (append-nil (xs ++ [] ++ []) ∙ append-nil (xs ++ []) ∙ append-nil xs)) h
least_beside slot l m n k true b c d xs o e h = cc
least_beside slot l m n k false true c d xs o e h = cc
least_beside slot l m n k false false true d xs o e h = cc
least_beside slot l m n k false false false true xs o e h = cc
