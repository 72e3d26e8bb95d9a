-- The digits of a number in base 16, the last one behind the others.
use Rattle.std.proofs.Common.{◌≡◌, ℕ, zero, suc, ◌/◌, ◌%◌, ◌^◌, ◌<◌, ◌≤◌, true, false, eqb, List, [], ◌∷◌, ◌++◌, refl, sym, ap, ◌∙◌, append_assoc, ⊎_elim, arith}
use Rattle.std.specs.Fmt.{digits, digits_onto, digit_glyph}
use Rattle.std.proofs.lemmas.Bool.{eq-eqb, ne_eqb, cases_lt}
use Rattle.std.proofs.lemmas.Fmt.{hex_one_digit}
use Rattle.bpf_text.specs.code.Puts.{Puts}
use Rattle.bpf_text.proofs.PutLemmas.{puts_more}

abbrev spell : ℕ → ℕ → List ℕ → List ℕ
spell k n there = digits_onto k 16 false n there

abbrev last : ℕ → ℕ
last n = digit_glyph false (n % 16)

spell_last : (k n : ℕ) (there : List ℕ) → n < 16 → spell (suc k) n there ≡ last n ∷ there
spell_last k n there h = let none : eqb (n / 16) 0 ≡ true = eq-eqb (n / 16) 0 (omega arith) in rw none refl

spell_next : (k n : ℕ) (there : List ℕ) → 16 ≤ n → spell (suc k) n there ≡ spell k (n / 16) (last n ∷ there)
spell_next k n there h = let some : eqb (n / 16) 0 ≡ false = ne_eqb (n / 16) 0 (λ e. omega arith) in rw some refl

spell_behind : (k n : ℕ) (there : List ℕ) → spell k n there ≡ spell k n [] ++ there
spell_behind zero n there = refl
spell_behind (suc k) n there = ⊎_elim
    (λ (l : n < 16). spell_last k n there l ∙ ap (λ t. t ++ there) (sym (spell_last k n [] l)))
    (λ (l : 16 ≤ n). spell_next k n there l ∙ spell_behind k (n / 16) (last n ∷ there) ∙ sym (append_assoc (spell k (n / 16) []) (last n ∷ []) there)
    ∙ ap (λ t. t ++ there) (sym (spell_next k n [] l ∙ spell_behind k (n / 16) (last n ∷ []))))
    (cases_lt n 16)

-- as many places as there may be digits are enough
spell_enough : (k n : ℕ) (there : List ℕ) → n < 16 ^ suc k → spell (suc k) n there ≡ spell (suc (suc k)) n there
spell_enough zero n there p = let small : n < 16 = omega (arith, p) in spell_last zero n there small ∙ sym (spell_last 1 n there small)
spell_enough (suc k) n there p = ⊎_elim
    (λ (l : n < 16). spell_last (suc k) n there l ∙ sym (spell_last (suc (suc k)) n there l))
    (λ (l : 16 ≤ n). spell_next (suc k) n there l ∙ spell_enough k (n / 16) (last n ∷ there) (omega (arith, p)) ∙ sym (spell_next (suc (suc k)) n there l))
    (cases_lt n 16)

hex_step : (n : ℕ) → 16 ≤ n → n < 2 ^ 64 → digits 16 false n ≡ digits 16 false (n / 16) ++ last n ∷ []
unfolding digits
hex_step n h small = spell_next 63 n [] h ∙ spell_enough 62 (n / 16) (last n ∷ []) (omega (arith, small)) ∙ spell_behind 64 (n / 16) (last n ∷ [])

-- a single digit is put, or one behind the others
pub puts_digit : (a b : List ℕ) (n : ℕ) → n < 16 → Puts a (digit_glyph false n ∷ []) b → Puts a (digits 16 false n) b
puts_digit a b n small h = rw (hex_one_digit false n small) h

pub puts_digits : (a b c : List ℕ) (n : ℕ) → 16 ≤ n → n < 2 ^ 64 → Puts a (digits 16 false (n / 16)) b → Puts b (digit_glyph false (n % 16) ∷ []) c → Puts a (digits 16 false n) c
puts_digits a b c n large small h k = rw (hex_step n large small) (puts_more a b c _ _ h k)
