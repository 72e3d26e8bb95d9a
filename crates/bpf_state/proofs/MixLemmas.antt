-- Lists of which the front is another's.
use Rattle.std.proofs.Common.{◌≡◌, ℕ, zero, suc, ◌+◌, ◌<◌, List, [], ◌∷◌, ◌++◌, length, get_or, take, drop, refl, sym, ◌∙◌, ap, arith}
use Rattle.std.specs.Prelude.{set}

abbrev pub mix : {A : Type 0} → ℕ → List A → List A → List A
mix i xs ys = take i xs ++ drop i ys

mix_set : {A : Type 0} (i : ℕ) (xs ys : List A) (d : A) → i < length xs → i < length ys → mix (i + 1) xs ys ≡ set (mix i xs ys) i (get_or xs i d)
mix_set i [] ys d h k = absurd (omega arith)
mix_set i (x ∷ xs) [] d h k = absurd (omega arith)
mix_set zero (x ∷ xs) (y ∷ ys) d h k = refl
mix_set (suc i) (x ∷ xs) (y ∷ ys) d h k =
    let same : suc i + 1 ≡ suc (i + 1) = omega arith in
    ap (λ n. mix n (x ∷ xs) (y ∷ ys)) same ∙ ap (λ l. x ∷ l) (mix_set i xs ys d (omega arith) (omega arith))

pub mix_here : {A : Type 0} (i : ℕ) (xs ys : List A) (d : A) → i < length xs → i < length ys → get_or (mix i xs ys) i d ≡ get_or ys i d
mix_here i [] ys d h k = absurd (omega arith)
mix_here i (x ∷ xs) [] d h k = absurd (omega arith)
mix_here zero (x ∷ xs) (y ∷ ys) d h k = refl
mix_here (suc i) (x ∷ xs) (y ∷ ys) d h k = mix_here i xs ys d (omega arith) (omega arith)

-- one more of the front is put in
pub mix_put : {A : Type 0} (i : ℕ) (xs ys : List A) (d v : A) → i < length xs → i < length ys → v ≡ get_or xs i d → set (mix i xs ys) i v ≡ mix (i + 1) xs ys
mix_put i xs ys d v h k e = ap (set (mix i xs ys) i) e ∙ sym (mix_set i xs ys d h k)
