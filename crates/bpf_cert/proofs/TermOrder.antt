-- Terms are in order where their texts are.
use Rattle.std.proofs.Common.{◌≡◌, ℕ, ◌^◌, ◌≤◌, true, leb, ltb, List, [], ◌∷◌, map, refl, ap, ◌∙◌, arith}
use Rattle.std.specs.Prelude.{◌&&◌, decimal}
use Rattle.std.specs.List.{list_all}
use Rattle.std.proofs.lemmas.Bool.{leb-true}
use Rattle.bpf_insn.specs.Instruction.{register_number}
use Rattle.bpf_state.specs.declared.known.Place.{Place}
use Rattle.bpf_state.specs.declared.known.Place.TheVariants as place
use Rattle.bpf_cert.specs.Numeral.{number, is_from_to}
use Rattle.bpf_cert.specs.Faults as faults
use Rattle.bpf_cert.specs.Limits.{is_rising, place_before, place_measured, term_before, is_limited_place, is_limited_measure, is_limited_term}
use Rattle.bpf_cert.specs.Spelling.{spelled_place, measure_of, term_of}
use Rattle.bpf_cert.specs.declared.certificate.Measure.{Measure}
use Rattle.bpf_cert.specs.declared.certificate.Measure.TheVariants as measure
use Rattle.bpf_cert.specs.declared.certificate.Term.{Term}
use Rattle.bpf_cert.proofs.Bools.{both_true}
use Rattle.bpf_cert.proofs.NumeralLaws.{numeral-decimal}

number_is : (n : ℕ) → n ≤ 64 → number (decimal n) ≡ n
number_is n small = (numeral-decimal n (omega arith)).1

low_register : (n : ℕ) → leb n 9 ≡ true → number (decimal n) ≡ n
low_register n e = let low : n ≤ 9 = leb-true n 9 e in number_is n (omega arith)

low_slot : (k : ℕ) → is_from_to 1 64 k ≡ true → number (decimal k) ≡ k
low_slot k e = let high : k ≤ 64 = leb-true k 64 (both_true (leb 1 k) (leb k 64) e).1 in number_is k high

places_too : (p q : Place) → is_limited_place p ≡ true → is_limited_place q ≡ true → faults.place_before (spelled_place p) (spelled_place q) ≡ place_before p q
places_too (place.Register r) (place.Register t) e f = rw (low_register (register_number r) e, low_register (register_number t) f) refl
places_too (place.Register r) (place.Slot k) e f = refl
places_too (place.Slot k) (place.Register t) e f = refl
places_too (place.Slot j) (place.Slot k) e f = rw (low_slot j e, low_slot k f) refl

limited_in : (m : Measure) → is_limited_measure m ≡ true → is_limited_place (place_measured m) ≡ true
limited_in (measure.Down p) e = e
limited_in (measure.Up p limit) e = (both_true (ltb limit (2 ^ 64)) (is_limited_place p) e).1

place_too : (w : List ℕ) (m : Measure) → faults.line_place (record { weight = w; measure = measure_of m }) ≡ spelled_place (place_measured m)
place_too w (measure.Down p) = refl
place_too w (measure.Up p limit) = refl

terms_too : (t u : Term) → is_limited_term t ≡ true → is_limited_term u ≡ true → faults.place_before (faults.line_place (term_of t)) (faults.line_place (term_of u)) ≡ term_before t u
terms_too t u e f =
    let first = both_true (is_from_to 1 (2 ^ 20) t.weight) (is_limited_measure t.measure) e in
    let second = both_true (is_from_to 1 (2 ^ 20) u.weight) (is_limited_measure u.measure) f in
    ap (λ p. faults.place_before p (faults.line_place (term_of u))) (place_too (decimal t.weight) t.measure) ∙ ap (faults.place_before (spelled_place (place_measured t.measure))) (place_too (decimal u.weight) u.measure)
    ∙ places_too (place_measured t.measure) (place_measured u.measure) (limited_in t.measure first.1) (limited_in u.measure second.1)

pub rising_terms : (ts : List Term) → list_all is_limited_term ts ≡ true → is_rising (λ t u. faults.place_before (faults.line_place t) (faults.line_place u)) (map term_of ts) ≡ is_rising term_before ts
rising_terms [] e = refl
rising_terms (t ∷ []) e = refl
rising_terms (t ∷ u ∷ us) e =
    let parts = both_true (is_limited_term t) (list_all is_limited_term (u ∷ us)) e in
    let next = both_true (is_limited_term u) (list_all is_limited_term us) parts.1 in
    ap (λ b. b && is_rising (λ t u. faults.place_before (faults.line_place t) (faults.line_place u)) (map term_of (u ∷ us))) (terms_too t u parts.0 next.0) ∙ ap (λ b. term_before t u && b) (rising_terms (u ∷ us) parts.1)
