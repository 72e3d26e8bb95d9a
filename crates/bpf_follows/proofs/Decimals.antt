-- Numbers that are spelled are read again.
use Rattle.std.proofs.Common.{◌≡◌, ℕ, ◌+◌, ◌*◌, ◌-◌, ◌/◌, ◌%◌, ◌^◌, ◌<◌, ◌≤◌, Bool, true, false, eqb, List, [], ◌∷◌, ◌++◌, Some, None, refl, sym, ap, subst, ◌∙◌, append_assoc, arith}
use Rattle.std.specs.Prelude.{◌&&◌, decimal}
use Rattle.std.proofs.lemmas.Bool.{le-leb, lt-ltb, eq-eqb, ne_eqb}
use Rattle.std.proofs.lemmas.Fmt.{decimal_by_steps}
use Rattle.bpf_streams.specs.Words.{behind}
use Rattle.bpf_streams.proofs.WordLemmas.{behind_word}
use Rattle.bpf_follows.specs.code.Reading.{is_digit}
use Rattle.bpf_follows.specs.code.Reading.{digits_in, numeral_in, number_in, short_in, at_in}

pub both : {a b : Bool} → a ≡ true → b ≡ true → (a && b) ≡ true
both {a} {b} e f = rw (e, f) refl

digit_is : (d : ℕ) → d < 10 → is_digit (48 + d) ≡ true
digit_is d h = both (le-leb 48 (48 + d) (omega arith)) (le-leb (48 + d) 57 (omega arith))

-- one digit more
next_digit : (n d : ℕ) (rest : List ℕ) → d < 10 → n * 10 + d < 2 ^ 64 → digits_in n ((48 + d) ∷ rest) ≡ digits_in (n * 10 + d) rest
unfolding digits_in
next_digit n d rest h small = let value : 48 + d - 48 ≡ d = omega arith in rw (digit_is d h, value, lt-ltb (n * 10 + d) (2 ^ 64) small) refl

Digits : ℕ → List ℕ → Type 0
Digits n ds = n < 2 ^ 64 → (rest : List ℕ) → digits_in 0 (ds ++ rest) ≡ digits_in n rest

one_digit : (n : ℕ) → n < 10 → Digits n ((48 + n) ∷ [])
unfolding Digits
one_digit n h small rest = let value : 0 * 10 + n ≡ n = omega arith in next_digit 0 n rest h (omega arith) ∙ ap (λ m. digits_in m rest) value

more_digits : (n : ℕ) (ds : List ℕ) → 10 ≤ n → Digits (n / 10) ds → Digits n (ds ++ ((48 + n % 10) ∷ []))
unfolding Digits
more_digits n ds large front small rest =
    let value : n / 10 * 10 + n % 10 ≡ n = omega arith in
    ap (digits_in 0) (append_assoc ds ((48 + n % 10) ∷ []) rest) ∙ front (omega arith) ((48 + n % 10) ∷ rest)
    ∙ next_digit (n / 10) (n % 10) rest (omega arith) (omega arith) ∙ ap (λ m. digits_in m rest) value

decimal_again : (n : ℕ) → n < 2 ^ 64 → (rest : List ℕ) → digits_in 0 (decimal n ++ rest) ≡ digits_in n rest
unfolding Digits
decimal_again n small rest = decimal_by_steps Digits one_digit more_digits n small small rest

digits_end : (n c : ℕ) (rest : List ℕ) → is_digit c ≡ false → digits_in n (c ∷ rest) ≡ Some (n, c ∷ rest)
unfolding digits_in
digits_end n c rest h = rw h refl

-- no digit stands at the front
pub record NoDigit (text : List ℕ) : Type 0 where
  pub c : ℕ
  pub cs : List ℕ
  pub text_is : text ≡ c ∷ cs
  pub digit : is_digit c ≡ false

digits_again : (n : ℕ) (tail : List ℕ) → n < 2 ^ 64 → NoDigit tail → digits_in 0 (decimal n ++ tail) ≡ Some (n, tail)
digits_again n tail small f = subst (λ t. digits_in 0 (decimal n ++ t) ≡ Some (n, t)) (sym f.text_is) (decimal_again n small (f.c ∷ f.cs) ∙ digits_end n f.c f.cs f.digit)

-- the first digit
Digital : ℕ → List ℕ → Type 0
Digital n ds = (d : ℕ) × (tail : List ℕ) × (ds ≡ d ∷ tail) × (is_digit d ≡ true)

first_digit : (n : ℕ) → n < 2 ^ 64 → Digital n (decimal n)
unfolding Digital
first_digit n small =
    decimal_by_steps Digital (λ m h. (48 + m, [], refl, digit_is m h))
    (λ m ds large front. (front.0, front.1 ++ ((48 + m % 10) ∷ []), ap (λ t. t ++ ((48 + m % 10) ∷ [])) front.2, front.3)) n small

pub numeral_again : (n : ℕ) (tail : List ℕ) → n < 2 ^ 64 → NoDigit tail → numeral_in (decimal n ++ tail) ≡ Some (n, tail)
unfolding numeral_in Digital
numeral_again n tail small f =
    let d = first_digit n small in
    subst (λ ds. numeral_in (ds ++ tail) ≡ Some (n, tail)) (sym d.2)
    (rw d.3 (subst (λ ds. digits_in 0 (ds ++ tail) ≡ Some (n, tail)) d.2 (digits_again n tail small f)))

pub number_again : (word : List ℕ) (n : ℕ) (tail : List ℕ) → n < 2 ^ 64 → NoDigit tail → number_in word (word ++ (decimal n ++ tail)) ≡ Some (n, tail)
unfolding number_in
number_again word n tail small f = rw (behind_word word (word ++ (decimal n ++ tail)) (decimal n ++ tail) refl) (numeral_again n tail small f)

pub short_again : (word : List ℕ) (n : ℕ) (tail : List ℕ) → n < 2 ^ 32 → NoDigit tail → short_in word (word ++ (decimal n ++ tail)) ≡ Some (n, tail)
unfolding short_in
short_again word n tail small f = rw (number_again word n tail (omega arith) f, lt-ltb n (2 ^ 32) small) refl

-- ---- other words

differ : (d c : ℕ) → is_digit d ≡ true → is_digit c ≡ false → eqb d c ≡ false
differ d c digit other = ne_eqb d c (λ same. let e : is_digit d ≡ is_digit c = ap is_digit same in cc)

-- a word that begins with no digit isn't there
pub no_word : (c : ℕ) (word : List ℕ) (n : ℕ) (rest : List ℕ) → n < 2 ^ 64 → is_digit c ≡ false → behind (c ∷ word) (decimal n ++ rest) ≡ None
unfolding behind Digital
no_word c word n rest small h = let f = first_digit n small in rw (f.2, differ f.0 c f.3 h) refl

-- ---- places

pub at_again : (word : List ℕ) (i : ℕ) (end tail : List ℕ) → i < 2 ^ 64 → NoDigit (end ++ tail) → at_in word i end (word ++ (decimal i ++ (end ++ tail))) ≡ Some tail
unfolding at_in
at_again word i end tail small f = rw (number_again word i (end ++ tail) small f, eq-eqb i i refl) (behind_word end (end ++ tail) tail refl)

pub at_other : (word : List ℕ) (j i : ℕ) (end tail : List ℕ) → j < i → i < 2 ^ 64 → NoDigit tail → at_in word j end (word ++ (decimal i ++ tail)) ≡ None
unfolding at_in
at_other word j i end tail below small f = rw (number_again word i tail small f, ne_eqb i j (λ e. omega (arith, e))) refl

pub at_lacks : (word : List ℕ) (j : ℕ) (end text : List ℕ) → behind word text ≡ None → at_in word j end text ≡ None
unfolding at_in number_in
at_lacks word j end text none = rw none refl
