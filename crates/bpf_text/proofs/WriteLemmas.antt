-- One text put after another.
use Rattle.std.proofs.Common.{◌≡◌, ℕ, ◌+◌, ◌<◌, List, [], ◌∷◌, ◌++◌, Option, ap, sym, ◌∙◌, append-nil, length, get_or, take, drop, drop-cons, add-one, subst, take-append-drop}
use Rattle.std.proofs.lemmas.List.{take_more}
use Rattle.std.proofs.lemmas.List.Concat.{flat_map-append}
use Rattle.std.specs.Prelude.{flat_map}
use Rattle.bpf_insn.specs.Written.{AppendsBeginning, Gathers}
use Rattle.bpf_insn.proofs.WriteLemmas.{gathers_more, waits_first, waits_later}

-- a list from one of its places on
split_at : {X : Type 0} (xs : List X) (i : ℕ) (d : X) → i < length xs → xs ≡ take i xs ++ get_or xs i d ∷ drop (i + 1) xs
split_at xs i d h = sym (take-append-drop i xs) ∙ ap (λ ys. take i xs ++ ys) (rw (add-one) (drop-cons xs i d h))

-- the texts of the places below i were put, and then that at i
pub put_more : {X : Type 0} (a b c : Option (List ℕ)) (p q r : List ℕ) (f : X → List ℕ) (xs : List X) (i : ℕ) (d : X) → i < length xs
    → Gathers a b p q (flat_map f (take i xs)) → Gathers b c q r (f (get_or xs i d)) → Gathers a c p r (flat_map f (take (i + 1) xs))
put_more a b c p q r f xs i d inside h k =
    let more : flat_map f (take (i + 1) xs) ≡ flat_map f (take i xs) ++ (f (get_or xs i d) ++ []) = ap (flat_map f) (take_more xs i d inside) ∙ flat_map-append f (take i xs) (get_or xs i d ∷ []) in
    subst (Gathers a c p r) (sym (more ∙ ap (λ t. flat_map f (take i xs) ++ t) (append-nil (f (get_or xs i d))))) (gathers_more a b c p q r (flat_map f (take i xs)) (f (get_or xs i d)) h k)

-- and of what then waited only a beginning went out
pub began_more : {X : Type 0} (a b c : Option (List ℕ)) (p q : List ℕ) (f : X → List ℕ) (xs : List X) (i : ℕ) (d : X) → i < length xs
    → Gathers a b p q (flat_map f (take i xs)) → AppendsBeginning b c (q ++ f (get_or xs i d)) → AppendsBeginning a c (p ++ flat_map f xs)
began_more a b c p q f xs i d inside h k =
    let parts : flat_map f xs ≡ flat_map f (take i xs) ++ (f (get_or xs i d) ++ flat_map f (drop (i + 1) xs)) = ap (flat_map f) (split_at xs i d inside) ∙ flat_map-append f (take i xs) (get_or xs i d ∷ drop (i + 1) xs) in
    subst (λ t. AppendsBeginning a c (p ++ t)) (sym parts) (waits_later a b c p q (flat_map f (take i xs)) (f (get_or xs i d) ++ flat_map f (drop (i + 1) xs)) h (waits_first b c q (f (get_or xs i d)) (flat_map f (drop (i + 1) xs)) k))
