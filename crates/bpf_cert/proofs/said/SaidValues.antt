-- Contents, places and terms in a line that are canonical and within the limits are spelled again from what they say.
use Rattle.std.proofs.Common.{◌≡◌, ℕ, zero, suc, ◌+◌, ◌-◌, ◌^◌, ◌<◌, ◌≤◌, true, false, not, eqb, leb, ltb, List, [], ◌∷◌, map, refl, ap, ap₂, ◌∙◌, arith, pos, neg_ℤ}
use Rattle.std.specs.Prelude.{◌&&◌, decimal}
use Rattle.std.specs.List.{list_all}
use Rattle.std.proofs.lemmas.Bool.{leb-true, ltb-true, le-ltb, lt-ltb}
use Rattle.std.proofs.lemmas.Int.{ints}
use Rattle.bpf_insn.specs.Instruction.{register_number}
use Rattle.bpf_cert.specs.Numeral.{SignedDigits, is_numeral, is_plain, number, signed_number, is_plain_signed, digits_of_int, is_from_to}
use Rattle.bpf_cert.specs.Line.{Content, PlaceText, Measure, Term, is_content, is_place, is_measure, is_term}
use Rattle.bpf_cert.specs.Faults.{is_canonical_content, is_limited_content, is_plain_place, is_limited_place, is_plain_measure, is_limited_measure, is_limited_term}
use Rattle.bpf_cert.specs.Limits.{is_pointer_range, is_limited_slot, is_limited_place as is_limited_value, is_limited_measure as is_limited_measured, is_limited_term as is_limited_termed}
use Rattle.bpf_cert.specs.code.TermSums.{is_plain_term}
use Rattle.bpf_cert.specs.Spelling.{is_unknown, content_of, place_at, spelled_place, measure_of, term_of}
use Rattle.bpf_cert.proofs.NumeralLaws.{plain_decimal}
use Rattle.bpf_cert.proofs.Bools.{both_true}
use Rattle.bpf_cert.proofs.NumLemmas.{not_true, in_range, plain_signed}
use Rattle.bpf_cert.proofs.lines.LineValues.{content_said, register_said, place_said, measure_said, term_said}
use Rattle.bpf_cert.proofs.lines.LineStates.{place_index}
use Rattle.bpf_cert.proofs.said.SaidNumbers.{number_kept}

-- what a content says of a place, and the content again
pub record IsKept (c : Content) : Type 0 where
  pub same : content_of (content_said c) ≡ c
  pub limited : is_limited_slot (content_said c) ≡ true
  pub some : is_unknown (content_said c) ≡ false

bounds_kept : (lo hi : SignedDigits) → (is_numeral lo.digits && is_numeral hi.digits) ≡ true → (is_plain_signed lo && is_plain_signed hi) ≡ true → is_pointer_range (signed_number lo) (signed_number hi) ≡ true
    → (digits_of_int (signed_number lo) ≡ lo) × (digits_of_int (signed_number hi) ≡ hi)
bounds_kept lo hi f p e =
    let form = both_true (is_numeral lo.digits) (is_numeral hi.digits) f in
    let plain = both_true (is_plain_signed lo) (is_plain_signed hi) p in
    let r = in_range (neg_ℤ (pos (2 ^ 31))) (pos (2 ^ 31)) (signed_number lo) (signed_number hi) e in
    let low = r.low in let high = r.high in let low_high = r.low_high in let high_low = r.high_low in
    (plain_signed lo form.0 plain.0 (omega (arith, ints)) (omega (arith, ints)), plain_signed hi form.1 plain.1 (omega (arith, ints)) (omega (arith, ints)))

mask_kept : (m : List ℕ) → is_numeral m ≡ true → is_canonical_content (Content.bytes m) ≡ true → is_limited_content (Content.bytes m) ≡ true → IsKept (Content.bytes m)
mask_kept m form canonical limited =
    let plain = both_true (is_plain m) (not (eqb (number m) 0)) canonical in
    let few : number m ≤ 254 = leb-true (number m) 254 limited in
    record { same = ap Content.bytes (plain_decimal m form plain.0 (omega arith)); limited = limited; some = not_true (eqb (number m) 0) plain.1 }

pub content_kept : (p : PlaceText) (c : Content) → is_content p c ≡ true → is_canonical_content c ≡ true → is_limited_content c ≡ true → IsKept c
content_kept p (Content.number n) form canonical limited = let k = number_kept n form canonical limited in record { same = ap Content.number k.0; limited = k.1; some = refl }
content_kept p (Content.context lo hi) form canonical limited = let b = bounds_kept lo hi form canonical limited in record { same = ap₂ Content.context b.0 b.1; limited = limited; some = refl }
content_kept p (Content.frame lo hi) form canonical limited = let b = bounds_kept lo hi form canonical limited in record { same = ap₂ Content.frame b.0 b.1; limited = limited; some = refl }
content_kept (PlaceText.register i) (Content.bytes m) form canonical limited = cc
content_kept (PlaceText.slot k) (Content.bytes m) form canonical limited = mask_kept m form canonical limited
content_kept p Content.any form canonical limited = cc

-- the place again from where it stands among all
pub place_kept : (p : PlaceText) → is_place p ≡ true → is_plain_place p ≡ true → is_limited_place p ≡ true → place_at (place_index p) ≡ p
place_kept (PlaceText.register i) form plain limited =
    let few : number i ≤ 9 = leb-true (number i) 9 limited in
    rw (lt-ltb (number i) 10 (omega arith), plain_decimal i form plain (omega arith)) refl
place_kept (PlaceText.slot k) form plain limited =
    let few : number k ≤ 64 = leb-true (number k) 64 (both_true (leb 1 (number k)) (leb (number k) 64) limited).1 in
    let same : number k + 9 - 9 ≡ number k = omega arith in
    let some : 1 ≤ number k = leb-true 1 (number k) (both_true (leb 1 (number k)) (leb (number k) 64) limited).0 in
    rw (le-ltb (number k + 9) 10 (omega arith), same, plain_decimal k form plain (omega arith)) refl

pub place_inside : (p : PlaceText) → is_limited_place p ≡ true → place_index p < 74
place_inside (PlaceText.register i) limited = let few : number i ≤ 9 = leb-true (number i) 9 limited in omega arith
place_inside (PlaceText.slot k) limited = let few : number k ≤ 64 = leb-true (number k) 64 (both_true (leb 1 (number k)) (leb (number k) 64) limited).1 in omega arith

register_kept : (n : ℕ) → n ≤ 9 → register_number (register_said n) ≡ n
register_kept zero h = refl
register_kept (suc zero) h = refl
register_kept (suc (suc zero)) h = refl
register_kept (suc (suc (suc zero))) h = refl
register_kept (suc (suc (suc (suc zero)))) h = refl
register_kept (suc (suc (suc (suc (suc zero))))) h = refl
register_kept (suc (suc (suc (suc (suc (suc zero)))))) h = refl
register_kept (suc (suc (suc (suc (suc (suc (suc zero))))))) h = refl
register_kept (suc (suc (suc (suc (suc (suc (suc (suc zero)))))))) h = refl
register_kept (suc (suc (suc (suc (suc (suc (suc (suc (suc zero))))))))) h = refl
register_kept (suc (suc (suc (suc (suc (suc (suc (suc (suc (suc n)))))))))) h = absurd (omega arith)

value_kept : (p : PlaceText) → is_place p ≡ true → is_plain_place p ≡ true → is_limited_place p ≡ true → (spelled_place (place_said p) ≡ p) × (is_limited_value (place_said p) ≡ true)
value_kept (PlaceText.register i) form plain limited =
    let few : number i ≤ 9 = leb-true (number i) 9 limited in
    let same = register_kept (number i) few in
    (ap (λ n. PlaceText.register (decimal n)) same ∙ ap PlaceText.register (plain_decimal i form plain (omega arith)), ap (λ n. leb n 9) same ∙ limited)
value_kept (PlaceText.slot k) form plain limited =
    let few : number k ≤ 64 = leb-true (number k) 64 (both_true (leb 1 (number k)) (leb (number k) 64) limited).1 in
    (ap PlaceText.slot (plain_decimal k form plain (omega arith)), limited)

measure_kept : (m : Measure) → is_measure m ≡ true → is_plain_measure m ≡ true → is_limited_measure m ≡ true → (measure_of (measure_said m) ≡ m) × (is_limited_measured (measure_said m) ≡ true)
measure_kept (Measure.down p) form plain limited = let k = value_kept p form plain limited in (ap Measure.down k.0, k.1)
measure_kept (Measure.up limit p) f e l =
    let form = both_true (is_numeral limit) (is_place p) f in
    let plain = both_true (is_plain limit) (is_plain_place p) e in
    let limited = both_true (ltb (number limit) (2 ^ 64)) (is_limited_place p) l in
    let k = value_kept p form.1 plain.1 limited.1 in
    (ap₂ Measure.up (plain_decimal limit form.0 plain.0 (ltb-true (number limit) (2 ^ 64) limited.0)) k.0, rw (limited.0, k.1) refl)

term_kept : (t : Term) → is_term t ≡ true → is_plain_term t ≡ true → is_limited_term t ≡ true → (term_of (term_said t) ≡ t) × (is_limited_termed (term_said t) ≡ true)
term_kept t f e l =
    let form = both_true (is_numeral t.weight) (is_measure t.measure) f in
    let plain = both_true (is_plain t.weight) (is_plain_measure t.measure) e in
    let limited = both_true (is_from_to 1 (2 ^ 20) (number t.weight)) (is_limited_measure t.measure) l in
    let few : number t.weight ≤ 2 ^ 20 = leb-true (number t.weight) (2 ^ 20) (both_true (leb 1 (number t.weight)) (leb (number t.weight) (2 ^ 20)) limited.0).1 in
    let k = measure_kept t.measure form.1 plain.1 limited.1 in
    (ap₂ (λ w m. record { weight = w; measure = m }) (plain_decimal t.weight form.0 plain.0 (omega arith)) k.0, rw (limited.0, k.1) refl)

pub terms_kept : (ts : List Term) → list_all is_term ts ≡ true → list_all is_plain_term ts ≡ true → list_all is_limited_term ts ≡ true
    → (map term_of (map term_said ts) ≡ ts) × (list_all is_limited_termed (map term_said ts) ≡ true)
terms_kept [] form plain limited = (refl, refl)
terms_kept (t ∷ ts) form plain limited =
    let a = both_true (is_term t) (list_all is_term ts) form in
    let b = both_true (is_plain_term t) (list_all is_plain_term ts) plain in
    let c = both_true (is_limited_term t) (list_all is_limited_term ts) limited in
    let here = term_kept t a.0 b.0 c.0 in
    let rest = terms_kept ts a.1 b.1 c.1 in
    (ap₂ ◌∷◌ here.0 rest.0, rw (here.1, rest.1) refl)
