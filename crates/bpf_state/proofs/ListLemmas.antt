-- Lists that a loop goes through: pair by pair, or changed one element after another.
use Rattle.std.proofs.Common.{◌≡◌, ℕ, ◌+◌, ◌<◌, ◌≤◌, List, [], ◌∷◌, ◌++◌, length, get_or, take, drop, refl, sym, ◌∙◌, ap, arith, Option, Some, None}
use Rattle.std.specs.Prelude.{set, option_map, option_and_then}
use Rattle.std.proofs.lemmas.List.{drop_more, drop_all, drop-set-lt, take_more_set, append_assoc, append-nil, take_all, set-get_or}
use Rattle.bpf_state.specs.State.{each_if}

-- ---- pairs

-- ---- each element changed if all can be

-- what is done up to a place, and what is left
abbrev pub done_to : {A : Type 0} → (A → Option A) → ℕ → List A → Option (List A)
done_to f i xs = option_map (λ rest. take i xs ++ rest) (each_if f (drop i xs))

map_map : {A B C : Type 0} (g : B → C) (f : A → B) (o : Option A) → option_map g (option_map f o) ≡ option_map (λ x. g (f x)) o
map_map g f (Some x) = refl
map_map g f None = refl

same_map : {A B : Type 0} (f g : A → B) (o : Option A) → ((x : A) → f x ≡ g x) → option_map f o ≡ option_map g o
same_map f g (Some x) e = ap Some (e x)
same_map f g None e = refl

pub done_more : {A : Type 0} (f : A → Option A) (xs : List A) (i : ℕ) (d y : A) → i < length xs → f (get_or xs i d) ≡ Some y → done_to f i xs ≡ done_to f (i + 1) (set xs i y)
done_more {A = A} f xs i d y h e =
    let rest : List A = drop (i + 1) xs in
    let kept : drop (i + 1) (set xs i y) ≡ rest = drop-set-lt (i + 1) xs i y (omega arith) in
    ap (λ l. option_map (λ r. take i xs ++ r) (each_if f l)) (drop_more xs i d h)
    ∙ ap (λ o. option_map (λ r. take i xs ++ r) (option_and_then (λ z. option_map (λ zs. z ∷ zs) (each_if f rest)) o)) e
    ∙ map_map (λ r. take i xs ++ r) (λ zs. y ∷ zs) (each_if f rest)
    ∙ same_map (λ zs. take i xs ++ (y ∷ zs)) (λ r. take (i + 1) (set xs i y) ++ r) (each_if f rest) (λ r. sym (ap (λ l. l ++ r) (take_more_set xs i y h) ∙ append_assoc (take i xs) (y ∷ []) r))
    ∙ ap (λ l. option_map (λ r. take (i + 1) (set xs i y) ++ r) (each_if f l)) (sym kept)

-- an element that stays
pub kept_more : {A : Type 0} (f : A → Option A) (xs : List A) (i : ℕ) (d : A) → i < length xs → f (get_or xs i d) ≡ Some (get_or xs i d) → done_to f i xs ≡ done_to f (i + 1) xs
kept_more f xs i d h e = done_more f xs i d (get_or xs i d) h e ∙ ap (done_to f (i + 1)) (set-get_or xs i d)

pub all_done : {A : Type 0} (f : A → Option A) (xs : List A) (i : ℕ) → length xs ≤ i → done_to f i xs ≡ Some xs
all_done f xs i h =
    ap (λ l. option_map (λ r. take i xs ++ r) (each_if f l)) (drop_all i xs h)
    ∙ ap Some (append-nil (take i xs) ∙ take_all i xs h)

pub start_done : {A : Type 0} (f : A → Option A) (xs : List A) → done_to f 0 xs ≡ each_if f xs
start_done f xs = same_map (λ r. r) (λ r. r) (each_if f xs) (λ r. refl) ∙ map_id (each_if f xs)
  where
    map_id : {B : Type 0} (o : Option B) → option_map (λ r. r) o ≡ o
    map_id (Some x) = refl
    map_id None = refl

-- ---- lists of eleven
