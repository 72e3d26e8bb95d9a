-- What stands behind a word.
use Rattle.std.proofs.Common.{◌≡◌, ◌≢◌, ℕ, Bool, true, false, cond, eqb, List, [], ◌∷◌, ◌++◌, Option, Some, None, refl, sym, ap}
use Rattle.std.specs.Prelude.{option_map, MatchOption}
use Rattle.std.specs.Borrow.{Bor}
use Rattle.std.proofs.lemmas.Bool.{eq-eqb, eqb-true}
use Rattle.bpf_streams.specs.Words.{behind}

-- a word that is there
pub behind_word : (word text rest : List ℕ) → text ≡ word ++ rest → behind word text ≡ Some rest
unfolding behind
behind_word [] text rest e = ap Some e
behind_word (c ∷ word) [] rest e = cc
behind_word (c ∷ word) (x ∷ text) rest e = let same : x ≡ c = cc in let tail : text ≡ word ++ rest = cc in rw (eq-eqb x c same) (behind_word word text rest tail)

pub behind_none : (word text : List ℕ) → ((rest : List ℕ) → text ≢ word ++ rest) → behind word text ≡ None
unfolding behind
behind_none [] text h = absurd (h text refl)
behind_none (c ∷ word) [] h = refl
behind_none (c ∷ word) (x ∷ text) h = by_test (eqb x c) refl (λ e. behind_none word text (λ rest same. h rest (let head : x ≡ c = eqb-true x c e in cc)))
  where
    by_test : (b : Bool) → eqb x c ≡ b → (eqb x c ≡ true → behind word text ≡ None) → cond b (behind word text) None ≡ None
    by_test true e more = more e
    by_test false e more = refl

-- what `strip_prefix` answers
pub behind_stripped : (word text : List ℕ) (r : Option (Bor (List ℕ))) → MatchOption r ((rest : List ℕ) → text ≢ word ++ rest) (λ x. text ≡ word ++ x.now) → option_map (λ x. x.now) r ≡ behind word text
behind_stripped word text None h = sym (behind_none word text h)
behind_stripped word text (Some x) h = sym (behind_word word text x.now h)

-- what is left behind a word stood behind it
pub behind_is : (word text rest : List ℕ) → behind word text ≡ Some rest → text ≡ word ++ rest
unfolding behind
behind_is [] text rest e = cc
behind_is (c ∷ word) [] rest e = cc
behind_is (c ∷ word) (x ∷ text) rest e = by_test (eqb x c) refl (behind_is word text rest) e
  where
    by_test : (b : Bool) → eqb x c ≡ b → (behind word text ≡ Some rest → text ≡ word ++ rest) → cond b (behind word text) None ≡ Some rest → x ∷ text ≡ c ∷ (word ++ rest)
    by_test true same more e = let head : x ≡ c = eqb-true x c same in let tail : text ≡ word ++ rest = more e in cc
    by_test false same more e = cc
