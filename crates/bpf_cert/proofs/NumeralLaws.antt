-- Canonical digits are the decimal of their number.
use Rattle.std.proofs.Common.{◌≡◌, ℕ, zero, suc, ◌^◌, ◌<◌, ◌≤◌, Bool, true, false, eqb, leb, List, [], ◌∷◌, length, get_or, refl, ap, arith}
use Rattle.std.specs.Prelude.{decimal, ◌&&◌, not}
use Rattle.std.specs.Fmt.{digits}
use Rattle.std.specs.List.{list_all}
use Rattle.std.specs.Str.Parse.{AllDigits}
use Rattle.std.proofs.lemmas.Bool.{leb-true, le-leb, ne_eqb, eq-eqb}
use Rattle.std.proofs.lemmas.Str.{digit_value_digit}
use Rattle.std.proofs.lemmas.Str.Parse.{IsNumeralModel, digit_from_value, numerals_by_fold, tells_digits}
use Rattle.std.proofs.lemmas.Fmt.{decimal_is_IsNumeral, decimal-digits_value, digits_value-decimal, first_decimal}
use Rattle.bpf_cert.specs.Numeral.{is_decimal_digit, is_numeral, number, number_after, is_plain}
use Rattle.bpf_cert.proofs.Bools.{both_true}

both : {a b : Bool} → a ≡ true → b ≡ true → (a && b) ≡ true
both {a} {b} e f = rw (e, f) refl

told : (ds : List ℕ) → list_all is_decimal_digit ds ≡ true → AllDigits 10 ds
told [] e = tt
told (c ∷ cs) e = let parts = both_true (is_decimal_digit c) (list_all is_decimal_digit cs) e in let ends = both_true (leb 48 c) (leb c 57) parts.0 in
    (let low : 48 ≤ c = leb-true 48 c ends.0 in let high : c ≤ 57 = leb-true c 57 ends.1 in omega (arith, digit_value_digit c (low, high)), told cs parts.1)

tested : (ds : List ℕ) → AllDigits 10 ds → list_all is_decimal_digit ds ≡ true
tested [] p = refl
tested (c ∷ cs) p = let range = digit_from_value c p.0 in both (both (le-leb 48 c range.0) (le-leb c 57 range.1)) (tested cs p.1)

own : IsNumeralModel (AllDigits 10) number
own = numerals_by_fold (AllDigits 10) tells_digits number_after (record { empty = λ n. refl; more = λ n c cs r. refl })

numeral_told : (ds : List ℕ) → is_numeral ds ≡ true → AllDigits 10 ds × (0 < length ds)
numeral_told [] e = cc
numeral_told (d ∷ ds) e = (told (d ∷ ds) e, omega arith)

one_zero : (ds : List ℕ) → is_plain ds ≡ true → 0 < length ds → get_or ds 0 0 ≡ 48 → length ds ≡ 1
one_zero [] e some f = absurd (omega arith)
one_zero (d ∷ []) e some f = refl
one_zero (d ∷ c ∷ cs) e some f = let test : not (eqb d 48) ≡ false = ap not (eq-eqb d 48 f) in cc

-- digits without a needless zero are what is written for their number
pub plain_decimal : (ds : List ℕ) → is_numeral ds ≡ true → is_plain ds ≡ true → number ds < 2 ^ 64 → decimal (number ds) ≡ ds
plain_decimal ds e f small = let t = numeral_told ds e in decimal-digits_value own ds t.0 t.1 (one_zero ds f t.1) small

above : (ds : List ℕ) → 48 < get_or ds 0 0 → is_plain ds ≡ true
above [] h = refl
above (d ∷ []) h = refl
above (d ∷ c ∷ cs) h = rw (ne_eqb d 48 (λ same. omega arith)) refl

pub is_plain-decimal : (n : ℕ) → n < 2 ^ 64 → is_plain (decimal n) ≡ true
unfolding digits
is_plain-decimal zero small = refl
is_plain-decimal (suc n) small = above (decimal (suc n)) (first_decimal (suc n) (omega arith) small)

is_numeral_some : (ds : List ℕ) → 0 < length ds → list_all is_decimal_digit ds ≡ true → is_numeral ds ≡ true
is_numeral_some [] h e = absurd (omega arith)
is_numeral_some (d ∷ ds) h e = e

-- what is written for a number are digits, and write it
pub numeral-decimal : (n : ℕ) → n < 2 ^ 64 → (is_numeral (decimal n) ≡ true) × (number (decimal n) ≡ n)
numeral-decimal n small = let d = decimal_is_IsNumeral n small in (is_numeral_some (decimal n) d.0.0 (tested (decimal n) d.0.1), digits_value-decimal own n small)
