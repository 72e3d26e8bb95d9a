-- Contents, places and terms by themselves: canonical and within their limits.
use Rattle.std.proofs.Common.{◌≡◌, ℕ, ◌-◌, ◌^◌, ◌<◌, ◌≤◌, Bool, true, false, cond, leb, ltb, List, [], ◌∷◌, map, refl, arith, ℤ, pos, neg_ℤ}
use Rattle.std.specs.Prelude.{◌&&◌, decimal}
use Rattle.std.specs.List.{list_all}
use Rattle.std.proofs.lemmas.Bool.{leb-true, ltb-true, ltb-false, lt-ltb, le-leb, and_from}
use Rattle.std.proofs.lemmas.Int.{ints}
use Rattle.bpf_cert.specs.Numeral.{is_plain_signed, digits_of_int, signed_number, is_from_to, number}
use Rattle.bpf_cert.specs.Line.{PlaceText}
use Rattle.bpf_cert.specs.Faults.{is_canonical_content, is_limited_content, is_plain_place, is_limited_place, is_plain_measure, is_limited_measure, is_limited_term, place_before, line_place}
use Rattle.bpf_cert.specs.Limits.{is_rising, is_pointer_range, is_limited_slot, is_limited_place as is_limited_value, is_limited_measure as is_limited_measured, is_limited_term as is_limited_termed, place_before as value_before, place_measured, term_before as termed_before}
use Rattle.bpf_cert.specs.code.TermSums.{is_plain_term, term_before}
use Rattle.bpf_cert.specs.Spelling.{is_unknown, bounds_in, content_of, place_at, spelled_place, measure_of, term_of}
use Rattle.bpf_cert.specs.declared.certificate.Term.{Term as TermValue}
use Rattle.bpf_cert.specs.declared.certificate.Measure.{Measure}
use Rattle.bpf_cert.specs.declared.certificate.Measure.TheVariants as measure
use Rattle.bpf_insn.specs.Instruction.{register_number}
use Rattle.bpf_state.specs.declared.known.Area.{Area}
use Rattle.bpf_state.specs.declared.known.Area.TheVariants as area
use Rattle.bpf_state.specs.declared.known.SlotState.{SlotState}
use Rattle.bpf_state.specs.declared.known.SlotState.TheVariants as slot
use Rattle.bpf_state.specs.declared.known.Place.{Place as PlaceValue}
use Rattle.bpf_state.specs.declared.known.Place.TheVariants as place
use Rattle.bpf_cert.proofs.Bools.{both_true}
use Rattle.bpf_cert.proofs.NumLemmas.{in_range}
use Rattle.bpf_cert.proofs.fine.FineParts.{decimal_writes, digits_write, number_good}

bounds_plain : (lo hi : ℤ) → is_pointer_range lo hi ≡ true
    → ((is_plain_signed (digits_of_int lo) && is_plain_signed (digits_of_int hi)) ≡ true) × (is_pointer_range (signed_number (digits_of_int lo)) (signed_number (digits_of_int hi)) ≡ true)
bounds_plain lo hi e =
    let r = in_range (neg_ℤ (pos (2 ^ 31))) (pos (2 ^ 31)) lo hi e in
    let low = r.low in let high = r.high in let low_high = r.low_high in let high_low = r.high_low in
    let a = digits_write lo (omega (arith, ints)) (omega (arith, ints)) in
    let b = digits_write hi (omega (arith, ints)) (omega (arith, ints)) in
    (rw (a.plain, b.plain) refl, rw (a.same, b.same) e)

bounds_good : (a : Area) (lo hi : ℤ) → is_pointer_range lo hi ≡ true
    → (is_canonical_content (bounds_in a (digits_of_int lo) (digits_of_int hi)) ≡ true) × (is_limited_content (bounds_in a (digits_of_int lo) (digits_of_int hi)) ≡ true)
bounds_good area.Context lo hi e = bounds_plain lo hi e
bounds_good area.Frame lo hi e = bounds_plain lo hi e

pub content_good : (s : SlotState) → is_limited_slot s ≡ true → is_unknown s ≡ false → (is_canonical_content (content_of s) ≡ true) × (is_limited_content (content_of s) ≡ true)
content_good (slot.Bytes m) e some = let few : m ≤ 254 = leb-true m 254 e in let d = decimal_writes m (omega arith) in (rw (d.plain, d.same, some) refl, rw d.same e)
content_good (slot.Word n) e some = number_good n e
content_good (slot.Spilled p) e some = bounds_good p.area p.lo p.hi e

pub place_good : (p : PlaceValue) → is_limited_value p ≡ true → (is_plain_place (spelled_place p) ≡ true) × (is_limited_place (spelled_place p) ≡ true)
place_good (place.Register r) e = let few : register_number r ≤ 9 = leb-true (register_number r) 9 e in let d = decimal_writes (register_number r) (omega arith) in (d.plain, rw d.same e)
place_good (place.Slot k) e =
    let ends = both_true (leb 1 k) (leb k 64) e in let few : k ≤ 64 = leb-true k 64 ends.1 in
    let d = decimal_writes k (omega arith) in (d.plain, rw d.same e)

-- the j-th place of a state
pub place_at_good : (j : ℕ) → j < 74 → (is_plain_place (place_at j) ≡ true) × (is_limited_place (place_at j) ≡ true)
place_at_good j inside = by_test (ltb j 10) refl
  where
    by_test : (b : Bool) → ltb j 10 ≡ b → (is_plain_place (cond b (PlaceText.register (decimal j)) (PlaceText.slot (decimal (j - 9)))) ≡ true) × (is_limited_place (cond b (PlaceText.register (decimal j)) (PlaceText.slot (decimal (j - 9)))) ≡ true)
    by_test true e = let low : j < 10 = ltb-true j 10 e in let d = decimal_writes j (omega arith) in (d.plain, rw d.same (le-leb j 9 (omega arith)))
    by_test false e = let high : 10 ≤ j = ltb-false j 10 e in let d = decimal_writes (j - 9) (omega arith) in
        (d.plain, rw d.same (and_from (leb 1 (j - 9)) (leb (j - 9) 64) (le-leb 1 (j - 9) (omega arith)) (le-leb (j - 9) 64 (omega arith))))

-- they come in their order
pub places_rise : (i j : ℕ) → i < j → j < 74 → place_before (place_at i) (place_at j) ≡ true
places_rise i j h inside = by_tests (ltb i 10) (ltb j 10) refl refl
  where
    by_tests : (a b : Bool) → ltb i 10 ≡ a → ltb j 10 ≡ b → place_before (cond a (PlaceText.register (decimal i)) (PlaceText.slot (decimal (i - 9)))) (cond b (PlaceText.register (decimal j)) (PlaceText.slot (decimal (j - 9)))) ≡ true
    by_tests true true e f = let x = decimal_writes i (omega arith) in let y = decimal_writes j (omega arith) in rw (x.same, y.same) (lt-ltb i j h)
    by_tests true false e f = refl
    by_tests false true e f = let high : 10 ≤ i = ltb-false i 10 e in let low : j < 10 = ltb-true j 10 f in absurd (omega arith)
    by_tests false false e f = let high : 10 ≤ i = ltb-false i 10 e in let x = decimal_writes (i - 9) (omega arith) in let y = decimal_writes (j - 9) (omega arith) in rw (x.same, y.same) (lt-ltb (i - 9) (j - 9) (omega arith))

rises_same : (i j : ℕ) → i < 2 ^ 64 → j < 2 ^ 64 → ltb i j ≡ true → ltb (number (decimal i)) (number (decimal j)) ≡ true
rises_same i j a b e = let x = decimal_writes i a in let y = decimal_writes j b in rw (x.same, y.same) e

-- places in order are spelled in order
pub place_rises : (p q : PlaceValue) → is_limited_value p ≡ true → is_limited_value q ≡ true → value_before p q ≡ true → place_before (spelled_place p) (spelled_place q) ≡ true
place_rises (place.Register r) (place.Register t) e f g =
    let a : register_number r ≤ 9 = leb-true (register_number r) 9 e in let b : register_number t ≤ 9 = leb-true (register_number t) 9 f in
    rises_same (register_number r) (register_number t) (omega arith) (omega arith) g
place_rises (place.Register r) (place.Slot k) e f g = refl
place_rises (place.Slot k) (place.Register r) e f g = cc
place_rises (place.Slot j) (place.Slot k) e f g =
    let a : j ≤ 64 = leb-true j 64 (both_true (leb 1 j) (leb j 64) e).1 in let b : k ≤ 64 = leb-true k 64 (both_true (leb 1 k) (leb k 64) f).1 in
    rises_same j k (omega arith) (omega arith) g

measure_good : (m : Measure) → is_limited_measured m ≡ true → (is_plain_measure (measure_of m) ≡ true) × (is_limited_measure (measure_of m) ≡ true)
measure_good (measure.Down p) e = place_good p e
measure_good (measure.Up p limit) e =
    let parts = both_true (ltb limit (2 ^ 64)) (is_limited_value p) e in
    let d = decimal_writes limit (ltb-true limit (2 ^ 64) parts.0) in
    let q = place_good p parts.1 in
    (rw (d.plain, q.0) refl, rw (d.same, parts.0, q.1) refl)

term_good : (t : TermValue) → is_limited_termed t ≡ true → (is_plain_term (term_of t) ≡ true) × (is_limited_term (term_of t) ≡ true)
term_good t e =
    let parts = both_true (is_from_to 1 (2 ^ 20) t.weight) (is_limited_measured t.measure) e in
    let high : t.weight ≤ 2 ^ 20 = leb-true t.weight (2 ^ 20) (both_true (leb 1 t.weight) (leb t.weight (2 ^ 20)) parts.0).1 in
    let d = decimal_writes t.weight (omega arith) in
    let m = measure_good t.measure parts.1 in
    (rw (d.plain, m.0) refl, rw (d.same, parts.0, m.1) refl)

pub terms_good : (ts : List TermValue) → list_all is_limited_termed ts ≡ true → (list_all is_plain_term (map term_of ts) ≡ true) × (list_all is_limited_term (map term_of ts) ≡ true)
terms_good [] e = (refl, refl)
terms_good (t ∷ ts) e =
    let parts = both_true (is_limited_termed t) (list_all is_limited_termed ts) e in
    let here = term_good t parts.0 in
    let rest = terms_good ts parts.1 in
    (rw (here.0, rest.0) refl, rw (here.1, rest.1) refl)

measure_place : (m : Measure) (w : List ℕ) → line_place (record { weight = w; measure = measure_of m }) ≡ spelled_place (place_measured m)
measure_place (measure.Down p) w = refl
measure_place (measure.Up p limit) w = refl

measured_place : (m : Measure) → is_limited_measured m ≡ true → is_limited_value (place_measured m) ≡ true
measured_place (measure.Down p) e = e
measured_place (measure.Up p limit) e = (both_true (ltb limit (2 ^ 64)) (is_limited_value p) e).1

term_rises : (t u : TermValue) → is_limited_termed t ≡ true → is_limited_termed u ≡ true → termed_before t u ≡ true → term_before (term_of t) (term_of u) ≡ true
term_rises t u e f g =
    let a = measured_place t.measure (both_true (is_from_to 1 (2 ^ 20) t.weight) (is_limited_measured t.measure) e).1 in
    let b = measured_place u.measure (both_true (is_from_to 1 (2 ^ 20) u.weight) (is_limited_measured u.measure) f).1 in
    rw (measure_place t.measure (decimal t.weight), measure_place u.measure (decimal u.weight)) (place_rises (place_measured t.measure) (place_measured u.measure) a b g)

pub terms_rise : (ts : List TermValue) → list_all is_limited_termed ts ≡ true → is_rising termed_before ts ≡ true → is_rising term_before (map term_of ts) ≡ true
terms_rise [] e f = refl
terms_rise (t ∷ []) e f = refl
terms_rise (t ∷ u ∷ us) e f =
    let parts = both_true (is_limited_termed t) (list_all is_limited_termed (u ∷ us)) e in
    let next = both_true (is_limited_termed u) (list_all is_limited_termed us) parts.1 in
    let order = both_true (termed_before t u) (is_rising termed_before (u ∷ us)) f in
    rw (term_rises t u parts.0 next.0 order.0) (terms_rise (u ∷ us) parts.1 order.1)
