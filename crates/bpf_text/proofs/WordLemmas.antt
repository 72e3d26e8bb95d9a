-- Words and numbers in front of a text.
use Rattle.std.proofs.Common.{◌≡◌, ℕ, zero, suc, ◌+◌, ◌*◌, ◌/◌, ◌%◌, ◌^◌, ◌<◌, ◌≤◌, Bool, true, false, cond, eqb, ltb, leb, List, [], ◌∷◌, ◌++◌, length, map, get_or, Some, refl, ap, ◌∙◌, subst, arith, lit<, lit≤}
use Rattle.std.specs.Prelude.{codes, decimal, ◌&&◌}
use Rattle.std.specs.Char.{digit_value}
use Rattle.std.specs.List.{list_all}
use Rattle.std.specs.Fmt.{digits, digits_onto, digit_glyph}
use Rattle.std.proofs.lemmas.Bool.Decides.{nat_tests, Decides-eqb}
use Rattle.std.proofs.Math.Nat.{div-eq_of_lt, div-lt_iff_lt-mul, pow-suc, pow-zero, mod-lt}
use Rattle.std.proofs.lemmas.Nat.{div-add-mod'}
use Rattle.bpf_insn.proofs.TableLemmas.{numbers_from, same_in_range}
use Rattle.bpf_text.specs.declared.token.TheConstants.{WORD_PARTS}
use Rattle.bpf_text.specs.Characters.{is_digit, is_word_part, is_blank}
use Rattle.bpf_text.specs.code.WordReading.{skip_blanks, word_front, word_rest, word_of, word_in, unsigned_in}
use Rattle.bpf_text.specs.Numerals.{value_after, value_up_to, word_value, begins_hex}

parts_agree : map (λ b. get_or WORD_PARTS b false) (numbers_from 0 256) ≡ map (λ b. is_word_part b) (numbers_from 0 256)
unfolding numbers_from
parts_agree = refl

-- what the table has
pub word_parts_are : (b : ℕ) → b < 256 → get_or WORD_PARTS b false ≡ is_word_part b
word_parts_are = same_in_range (λ b. get_or WORD_PARTS b false) (λ b. is_word_part b) false 256 parts_agree

-- no word goes on in front of this text
pub record Stops (text : List ℕ) : Type 0 where
  pub front : word_front text ≡ []
  pub rest : word_rest text ≡ text

pub both_true : (a b : Bool) → (a && b) ≡ true → (a ≡ true) × (b ≡ true)
both_true true b e = (refl, e)
both_true false b e = cc

front_of : (w text : List ℕ) → list_all is_word_part w ≡ true → Stops text → word_front (w ++ text) ≡ w
front_of [] text h stops = stops.front
front_of (c ∷ cs) text h stops = let parts = both_true (is_word_part c) (list_all is_word_part cs) h in rw (parts.0, front_of cs text parts.1 stops) refl

rest_of : (w text : List ℕ) → list_all is_word_part w ≡ true → Stops text → word_rest (w ++ text) ≡ text
rest_of [] text h stops = stops.rest
rest_of (c ∷ cs) text h stops = let parts = both_true (is_word_part c) (list_all is_word_part cs) h in rw (parts.0, rest_of cs text parts.1 stops) refl

-- a word that begins with no blank is read whole
pub word_at : (c : ℕ) (cs text : List ℕ) → is_blank c ≡ false → list_all is_word_part (c ∷ cs) ≡ true → Stops text → word_in (c ∷ (cs ++ text)) ≡ Some (c ∷ cs, text)
unfolding word_in
word_at c cs text blank parts stops =
    let begins : skip_blanks (c ∷ (cs ++ text)) ≡ c ∷ (cs ++ text) = rw blank refl in
    let front : word_front (c ∷ (cs ++ text)) ≡ c ∷ cs = front_of (c ∷ cs) text parts stops in
    let rest : word_rest (c ∷ (cs ++ text)) ≡ text = rest_of (c ∷ cs) text parts stops in
    ap (λ t. word_of (word_front t) (word_rest t)) begins ∙ ap (λ f. word_of f (word_rest (c ∷ (cs ++ text)))) front ∙ ap (word_of (c ∷ cs)) rest

-- ---- digits

pub not_digit : (d c : ℕ) → is_digit d ≡ true → is_digit c ≡ false → eqb d c ≡ false
not_digit d c h k = go (eqb d c) refl
  where
    go : (b : Bool) → eqb d c ≡ b → b ≡ false
    go true e = let same : d ≡ c = (Decides-eqb d c).0 e in let P : ℕ → Type 0 = λ x. is_digit x ≡ true in let other : is_digit c ≡ true = subst P same h in cc
    go false e = refl

-- the value of each digit, and where it may stand
glyph_value : (d : ℕ) → d < 16 → digit_value (digit_glyph false d) ≡ d
glyph_value d h = grind (arith, nat_tests)

glyph_part : (d : ℕ) → d < 16 → is_word_part (digit_glyph false d) ≡ true
glyph_part d h = grind (arith, nat_tests)

glyph_digit : (d : ℕ) → d < 10 → is_digit (digit_glyph false d) ≡ true
glyph_digit d h = grind (arith, nat_tests)

pub below : (m n : ℕ) → m < n → ltb m n ≡ true
below m n h = grind (arith, nat_tests)

pub at_most : (m n : ℕ) → m ≤ n → leb m n ≡ true
at_most m n h = grind (arith, nat_tests)

value_step : (base m d : ℕ) (ds : List ℕ) → d < base → base ≤ 16 → value_after base m (digit_glyph false d ∷ ds) ≡ value_after base (m * base + d) ds
value_step base m d ds h k = let value : digit_value (digit_glyph false d) ≡ d = glyph_value d (omega arith) in let small : ltb d base ≡ true = below d base h in rw (value, small) refl

-- the digits write the number in front of those that are there
onto_value : (k base n : ℕ) (ds : List ℕ) → 2 ≤ base → base ≤ 16 → n < base ^ k → value_after base 0 (digits_onto k base false n ds) ≡ value_after base n ds
onto_value zero base n ds h j few = let none : base ^ 0 ≡ 1 = pow-zero base in let zeroed : 0 ≡ n = (let small : n < 1 = rw none at few in omega (arith, small)) in ap (λ m. value_after base m ds) zeroed
onto_value (suc k) base n ds h j few = go (eqb (n / base) 0) refl (onto_value k base (n / base) (digit_glyph false (n % base) ∷ ds) h j)
  where
    last : n % base < base
    last = mod-lt n (omega arith)

    all : n / base * base + n % base ≡ n
    all = div-add-mod' n base

    step : value_after base (n / base) (digit_glyph false (n % base) ∷ ds) ≡ value_after base n ds
    step = value_step base (n / base) (n % base) ds last j ∙ ap (λ m. value_after base m ds) all

    go : (b : Bool) → eqb (n / base) 0 ≡ b
        → (n / base < base ^ k → value_after base 0 (digits_onto k base false (n / base) (digit_glyph false (n % base) ∷ ds)) ≡ value_after base (n / base) (digit_glyph false (n % base) ∷ ds))
        → value_after base 0 (cond b (digit_glyph false (n % base) ∷ ds) (digits_onto k base false (n / base) (digit_glyph false (n % base) ∷ ds))) ≡ value_after base n ds
    go true e ih = let none : n / base ≡ 0 = (Decides-eqb (n / base) 0).0 e in rw none at step
    go false e ih = ih ((div-lt_iff_lt-mul (omega arith)).1 (let more : base ^ suc k ≡ base ^ k * base = pow-suc base k in rw more at few)) ∙ step

-- each digit passes a test that those below the base pass
onto_all : (p : ℕ → Bool) (k base n : ℕ) (ds : List ℕ) → 0 < base → ((d : ℕ) → d < base → p (digit_glyph false d) ≡ true) → list_all p ds ≡ true → list_all p (digits_onto k base false n ds) ≡ true
onto_all p zero base n ds h each those = those
onto_all p (suc k) base n ds h each those = go (eqb (n / base) 0) (onto_all p k base (n / base) (digit_glyph false (n % base) ∷ ds) h each)
  where
    more : list_all p (digit_glyph false (n % base) ∷ ds) ≡ true
    more = let one : p (digit_glyph false (n % base)) ≡ true = each (n % base) (mod-lt n h) in rw (one, those) refl

    go : (b : Bool) → (list_all p (digit_glyph false (n % base) ∷ ds) ≡ true → list_all p (digits_onto k base false (n / base) (digit_glyph false (n % base) ∷ ds)) ≡ true)
        → list_all p (cond b (digit_glyph false (n % base) ∷ ds) (digits_onto k base false (n / base) (digit_glyph false (n % base) ∷ ds))) ≡ true
    go true ih = more
    go false ih = ih more

-- so many digits are enough
onto_length : (k base n m : ℕ) (ds : List ℕ) → 0 < base → n < base ^ suc m → length (digits_onto k base false n ds) ≤ suc m + length ds
onto_length zero base n m ds h few = omega arith
onto_length (suc k) base n m ds h few = go (eqb (n / base) 0) refl (λ l. onto_length k base (n / base) l (digit_glyph false (n % base) ∷ ds) h) m few
  where
    go : (b : Bool) → eqb (n / base) 0 ≡ b
        → ((l : ℕ) → n / base < base ^ suc l → length (digits_onto k base false (n / base) (digit_glyph false (n % base) ∷ ds)) ≤ suc l + length (digit_glyph false (n % base) ∷ ds)) → (m : ℕ) → n < base ^ suc m
        → length (cond b (digit_glyph false (n % base) ∷ ds) (digits_onto k base false (n / base) (digit_glyph false (n % base) ∷ ds))) ≤ suc m + length ds
    go true e ih m few = omega arith
    go false e ih zero few =
        let one : base ^ 1 ≡ base ^ 0 * base = pow-suc base 0 in let none : base ^ 0 ≡ 1 = pow-zero base in let small : n < 1 * base = rw (one, none) at few in
        let zeroed : n / base ≡ 0 = div-eq_of_lt (omega arith) in let other : eqb (n / base) 0 ≡ true = rw zeroed refl in cc
    go false e ih (suc m) few =
        let one_less : length (digits_onto k base false (n / base) (digit_glyph false (n % base) ∷ ds)) ≤ suc m + length (digit_glyph false (n % base) ∷ ds)
        = ih m ((div-lt_iff_lt-mul h).1 (let more : base ^ suc (suc m) ≡ base ^ suc m * base = pow-suc base (suc m) in rw more at few)) in
        omega arith

pub record Begins (text : List ℕ) : Type 0 where
  pub first : ℕ
  pub others : List ℕ
  pub is : text ≡ first ∷ others

onto_begins : (k base n c : ℕ) (ds : List ℕ) → Begins (digits_onto k base false n (c ∷ ds))
onto_begins zero base n c ds = record { first = c; others = ds; is = refl }
onto_begins (suc k) base n c ds = go (eqb (n / base) 0) (onto_begins k base (n / base) (digit_glyph false (n % base)) (c ∷ ds))
  where
    go : (b : Bool) → Begins (digits_onto k base false (n / base) (digit_glyph false (n % base) ∷ c ∷ ds)) → Begins (cond b (digit_glyph false (n % base) ∷ c ∷ ds) (digits_onto k base false (n / base) (digit_glyph false (n % base) ∷ c ∷ ds)))
    go true ih = record { first = digit_glyph false (n % base); others = c ∷ ds; is = refl }
    go false ih = ih

digits_begin : (base n : ℕ) → Begins (digits base false n)
unfolding digits
digits_begin base n = go (eqb (n / base) 0)
  where
    go : (b : Bool) → Begins (cond b (digit_glyph false (n % base) ∷ []) (digits_onto 63 base false (n / base) (digit_glyph false (n % base) ∷ [])))
    go true = record { first = digit_glyph false (n % base); others = []; is = refl }
    go false = onto_begins 63 base (n / base) (digit_glyph false (n % base)) []

-- ---- numbers

-- a number as it is written
pub record IsNumber (w : List ℕ) (n : ℕ) : Type 0 where
  pub first : ℕ
  pub others : List ℕ
  pub is : w ≡ first ∷ others
  pub digit : is_digit first ≡ true
  pub parts : list_all is_word_part w ≡ true
  pub value : word_value w ≡ Some n

-- digits that are few write their number
few_digits : (most base n m : ℕ) → 2 ≤ base → base ≤ 16 → suc m ≡ most → n < base ^ suc m → n < base ^ 64 → value_up_to most base (digits base false n) ≡ Some n
unfolding digits
few_digits most base n m h j same few all =
    let value : value_after base 0 (digits_onto 64 base false n []) ≡ Some n = onto_value 64 base n [] h j all in
    let short : length (digits_onto 64 base false n []) ≤ suc m + 0 = onto_length 64 base n m [] (omega arith) few in
    let begins : Begins (digits_onto 64 base false n []) = digits_begin base n in
    let some : 0 < length (digits_onto 64 base false n []) = rw begins.is (omega arith) in
    let yes : ltb 0 (length (digits_onto 64 base false n [])) ≡ true = below 0 (length (digits_onto 64 base false n [])) some in
    let fits : leb (length (digits_onto 64 base false n [])) most ≡ true = at_most (length (digits_onto 64 base false n [])) most (omega arith) in
    rw (yes, fits) value

-- digits of a decimal number are no `0x`
no_hex : (w : List ℕ) → list_all is_digit w ≡ true → begins_hex w ≡ false
no_hex [] h = refl
no_hex (c ∷ []) h = refl
no_hex (c ∷ d ∷ ds) h =
    let front : (is_digit c ≡ true) × (list_all is_digit (d ∷ ds) ≡ true) = both_true (is_digit c) (list_all is_digit (d ∷ ds)) h in
    let second : (is_digit d ≡ true) × (list_all is_digit ds ≡ true) = both_true (is_digit d) (list_all is_digit ds) front.1 in
    let other : eqb d 120 ≡ false = not_digit d 120 second.0 refl in
    rw other (go (eqb c 48))
  where
    go : (b : Bool) → (b && false) ≡ false
    go true = refl
    go false = refl

decimal_digits : (n : ℕ) → list_all is_digit (decimal n) ≡ true
unfolding digits
decimal_digits n = onto_all is_digit 64 10 n [] (lit< tt) (λ d h. glyph_digit d h) refl

number_parts : (base n : ℕ) → 0 < base → base ≤ 16 → list_all is_word_part (digits base false n) ≡ true
unfolding digits
number_parts base n some h = onto_all is_word_part 64 base n [] some (λ d k. glyph_part d (omega arith)) refl

pub decimal_number : (n : ℕ) → n < 2 ^ 64 → IsNumber (decimal n) n
unfolding word_value
decimal_number n small =
    let begins : Begins (decimal n) = digits_begin 10 n in
    let all : list_all is_digit (begins.first ∷ begins.others) ≡ true = rw begins.is at (decimal_digits n) in
    let value : value_up_to 20 10 (decimal n) ≡ Some n = few_digits 20 10 n 19 (lit≤ tt) (lit≤ tt) refl (omega (arith, small)) (omega (arith, small)) in
    let plain : begins_hex (decimal n) ≡ false = no_hex (decimal n) (decimal_digits n) in
    record {
      first = begins.first;
      others = begins.others;
      is = begins.is;
      digit = (both_true (is_digit begins.first) (list_all is_digit begins.others) all).0;
      parts = number_parts 10 n (lit< tt) (lit≤ tt);
      value = rw plain value;
    }

pub hex_number : (n : ℕ) → n < 2 ^ 64 → IsNumber (codes "0x" ++ digits 16 false n) n
unfolding word_value
hex_number n small = record {
  first = 48;
  others = 120 ∷ digits 16 false n;
  is = refl;
  digit = refl;
  parts = number_parts 16 n (lit< tt) (lit≤ tt);
  value = few_digits 16 16 n 15 (lit≤ tt) (lit≤ tt) refl (omega (arith, small)) (omega (arith, small));
}

-- where a number stands in front
pub number_word : (w : List ℕ) (n : ℕ) (text : List ℕ) (number : IsNumber w n) → Stops text → word_in (w ++ text) ≡ Some (number.first ∷ number.others, text)
number_word w n text number stops =
    let space : eqb number.first 32 ≡ false = not_digit number.first 32 number.digit refl in
    let tab : eqb number.first 9 ≡ false = not_digit number.first 9 number.digit refl in
    let return : eqb number.first 13 ≡ false = not_digit number.first 13 number.digit refl in
    let parts : list_all is_word_part (number.first ∷ number.others) ≡ true = rw number.is at number.parts in
    ap (λ v. word_in (v ++ text)) number.is ∙ word_at number.first number.others text (rw (space, tab, return) refl) parts stops

pub unsigned_here : (w : List ℕ) (n : ℕ) (text : List ℕ) → IsNumber w n → Stops text → unsigned_in (w ++ text) ≡ Some (n, text)
unfolding unsigned_in
unsigned_here w n text number stops =
    let value : word_value (number.first ∷ number.others) ≡ Some n = rw number.is at number.value in
    rw (number_word w n text number stops, value) refl

-- a blank in front changes nothing
pub word_behind_blank : (text : List ℕ) → word_in (32 ∷ text) ≡ word_in text
unfolding word_in
word_behind_blank text = refl

pub unsigned_behind_blank : (text : List ℕ) → unsigned_in (32 ∷ text) ≡ unsigned_in text
unfolding unsigned_in word_in
unsigned_behind_blank text = refl
