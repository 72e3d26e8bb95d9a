-- The text at a place.
use Rattle.std.proofs.Common.{◌≡◌, ℕ, ◌<◌, List, [], ◌∷◌, ◌++◌, ◌∙◌, Option, zero, suc, length, get_or, refl, ap, subst, append_assoc, arith}
use Rattle.bpf_insn.specs.Written.{AppendsBeginning}

pub piece_at : {X : Type 0} (xs : List X) (i : ℕ) → i < length xs → (x : X) × ((d : X) → get_or xs i d ≡ x)
piece_at [] i h = absurd (omega (arith, h))
piece_at (x ∷ xs) zero h = (x, λ d. refl)
piece_at (x ∷ xs) (suc i) h = piece_at xs i (omega (arith, h))

-- three of the texts that a line is made of
pub three : (P : List ℕ → List ℕ → List ℕ → Type 0) (x y z a b c : List ℕ) → x ≡ a → y ≡ b → z ≡ c → P x y z → P a b c
three P x y z a b c first second third h = subst (λ t. P a b t) third (subst (λ t. P a t z) second (subst (λ t. P t y z) first h))

-- a beginning of a text is one of a longer text
pub begins_longer : (a b : Option (List ℕ)) (t u : List ℕ) → AppendsBeginning a b t → AppendsBeginning a b (t ++ u)
begins_longer a b t u h = record { begun = h.begun; left = h.left ++ u; is_whole = ap (λ l. l ++ u) h.is_whole ∙ append_assoc h.begun h.left u; appends = h.appends }
