-- Loops over the parts of a certificate.
use Rattle.std.proofs.Common.{◌≡◌, ℕ, ◌≤◌, Bool, true, List, [], ◌∷◌, length, map, take, refl, sym, ap, ◌∙◌, arith}
use Rattle.std.specs.List.{list_all}
use Rattle.std.proofs.lemmas.List.{take_all}
use Rattle.std.proofs.lemmas.List.Folds.{list_all-map, list_all_at}
use Rattle.bpf_cert.specs.Limits.{is_rising}

pub rising_short : {A : Type 0} (before : A → A → Bool) (xs : List A) → length xs ≤ 1 → is_rising before xs ≡ true
rising_short before [] few = refl
rising_short before (x ∷ []) few = refl
rising_short before (x ∷ y ∷ xs) few = absurd (omega arith)

pub rising_short_map : {A B : Type 0} (before : B → B → Bool) (f : A → B) (xs : List A) → length xs ≤ 1 → is_rising before (map f xs) ≡ true
rising_short_map before f [] few = refl
rising_short_map before f (x ∷ []) few = refl
rising_short_map before f (x ∷ y ∷ xs) few = absurd (omega arith)

-- all were looked at
pub all_taken : {A B : Type 0} (p : B → Bool) (f : A → B) (xs : List A) (n : ℕ) → length xs ≤ n → list_all (λ x. p (f x)) (take n xs) ≡ true → list_all p (map f xs) ≡ true
all_taken p f xs n all e = list_all-map p f xs ∙ ap (list_all (λ x. p (f x))) (sym (take_all n xs all)) ∙ e

pub ruleset all_of = (list_all-map, list_all_at)
