-- What a line says, back as the values that it was spelled from.
use Rattle.std.proofs.Common.{◌≡◌, ℕ, suc, ◌-◌, ◌^◌, ◌<◌, ◌≤◌, Bool, true, false, cond, eqb, leb, ltb, List, [], ◌∷◌, ◌++◌, map, get_or, refl, sym, ap, ap₂, ◌∙◌, arith, append_assoc, append-nil, ℤ, pos, negsuc, neg_ℤ, ◌≤ℤ◌}
use Rattle.std.specs.Prelude.{◌&&◌, decimal}
use Rattle.std.specs.List.{list_all}
use Rattle.std.proofs.lemmas.Bool.{leb-true, ltb-true, eqb-true}
use Rattle.std.proofs.lemmas.Int.{ints}
use Rattle.bpf_num.specs.Tristate.{Tristate, tristate, bits_top}
use Rattle.bpf_num.specs.Interval.{Interval, interval, unsigned_top}
use Rattle.bpf_num.specs.SignedInterval.{SignedInterval, signed_interval, signed_top}
use Rattle.bpf_num.specs.Number.{Number as NumberValue, number as number_of_parts, top}
use Rattle.bpf_cert.specs.Numeral.{SignedDigits, number, signed_number, digits_of_int, int_eq, is_from_to}
use Rattle.bpf_cert.specs.Line.{Part, Number, Content, PlaceText, Measure as MeasureText, Term as TermText}
use Rattle.bpf_cert.specs.Limits.{is_range, is_int_range, is_pointer_range, is_bits, is_limited_num, is_limited_slot, is_limited_place, is_limited_measure, is_limited_term}
use Rattle.bpf_cert.specs.Spelling.{unsigned_parts, signed_parts, bits_parts, of_parts, number_of, bounds_in, content_of, spelled_place, measure_of, term_of}
use Rattle.bpf_cert.specs.declared.certificate.Measure.{Measure}
use Rattle.bpf_cert.specs.declared.certificate.Measure.TheVariants as measure
use Rattle.bpf_cert.specs.declared.certificate.Term.{Term}
use Rattle.bpf_state.specs.declared.known.Area.{Area}
use Rattle.bpf_state.specs.declared.known.Area.TheVariants as area
use Rattle.bpf_state.specs.declared.known.Pointer.{Pointer}
use Rattle.bpf_state.specs.declared.known.SlotState.{SlotState}
use Rattle.bpf_state.specs.declared.known.SlotState.TheVariants as slot
use Rattle.bpf_state.specs.declared.known.Place.{Place}
use Rattle.bpf_state.specs.declared.known.Place.TheVariants as place
use Rattle.bpf_insn.specs.declared.instruction.Reg.{Reg}
use Rattle.bpf_insn.specs.declared.instruction.Reg.TheVariants.{R0, R1, R2, R3, R4, R5, R6, R7, R8, R9, R10}
use Rattle.bpf_insn.specs.Instruction.{register_number}
use Rattle.bpf_cert.proofs.NumeralLaws.{numeral-decimal}
use Rattle.bpf_cert.proofs.Bools.{both_true}
use Rattle.bpf_cert.proofs.NumLemmas.{in_range}

pub number_again : (n : ℕ) → n < 2 ^ 64 → number (decimal n) ≡ n
number_again n small = (numeral-decimal n small).1

pub int_again : (z : ℤ) → neg_ℤ (pos (2 ^ 63)) ≤ℤ z → z ≤ℤ pos (2 ^ 63) → signed_number (digits_of_int z) ≡ z
int_again (pos n) low high = ap pos (number_again n (omega (arith, ints)))
int_again (negsuc n) low high = ap (λ m. neg_ℤ (pos m)) (number_again (suc n) (omega (arith, ints)))

-- each part of a number; one that isn't there is top

abbrev pub unsigned_said : List Part → Interval
unsigned_said [] = unsigned_top
unsigned_said (Part.unsigned lo hi ∷ ps) = interval (number lo) (number hi)
unsigned_said (Part.signed lo hi ∷ ps) = unsigned_said ps
unsigned_said (Part.bits v m ∷ ps) = unsigned_said ps

abbrev pub signed_said : List Part → SignedInterval
signed_said [] = signed_top
signed_said (Part.unsigned lo hi ∷ ps) = signed_said ps
signed_said (Part.signed lo hi ∷ ps) = signed_interval (signed_number lo) (signed_number hi)
signed_said (Part.bits v m ∷ ps) = signed_said ps

abbrev pub bits_said : List Part → Tristate
bits_said [] = bits_top
bits_said (Part.unsigned lo hi ∷ ps) = bits_said ps
bits_said (Part.signed lo hi ∷ ps) = bits_said ps
bits_said (Part.bits v m ∷ ps) = tristate (number v) (number m)

unsigned_again : (u : Interval) (ps : List Part) → is_range u.lo u.hi ≡ true → unsigned_said ps ≡ unsigned_top → unsigned_said (unsigned_parts u ++ ps) ≡ u
unsigned_again u ps e none = by_whole (eqb u.lo 0 && eqb u.hi (2 ^ 64 - 1)) refl
  where
    by_whole : (b : Bool) → (eqb u.lo 0 && eqb u.hi (2 ^ 64 - 1)) ≡ b → unsigned_said (cond b [] (Part.unsigned (decimal u.lo) (decimal u.hi) ∷ []) ++ ps) ≡ u
    by_whole true w = let both = both_true (eqb u.lo 0) (eqb u.hi (2 ^ 64 - 1)) w in none ∙ ap₂ interval (sym (eqb-true u.lo 0 both.0)) (sym (eqb-true u.hi (2 ^ 64 - 1) both.1))
    by_whole false w = let ends = both_true (leb u.hi (2 ^ 64 - 1)) (leb u.lo u.hi) e in let top : u.hi ≤ 2 ^ 64 - 1 = leb-true u.hi (2 ^ 64 - 1) ends.0 in let order : u.lo ≤ u.hi = leb-true u.lo u.hi ends.1 in
        ap₂ interval (number_again u.lo (omega arith)) (number_again u.hi (omega arith))

signed_again : (s : SignedInterval) (ps : List Part) → is_int_range (neg_ℤ (pos (2 ^ 63))) (pos (2 ^ 63 - 1)) s.lo s.hi ≡ true → signed_said ps ≡ signed_top → signed_said (signed_parts s ++ ps) ≡ s
signed_again s ps e none = by_whole (int_eq s.lo (neg_ℤ (pos (2 ^ 63))) && int_eq s.hi (pos (2 ^ 63 - 1))) refl
  where
    by_whole : (b : Bool) → (int_eq s.lo (neg_ℤ (pos (2 ^ 63))) && int_eq s.hi (pos (2 ^ 63 - 1))) ≡ b → signed_said (cond b [] (Part.signed (digits_of_int s.lo) (digits_of_int s.hi) ∷ []) ++ ps) ≡ s
    by_whole true w = none ∙ ap₂ signed_interval (grind (arith, ints)) (grind (arith, ints))
    by_whole false w = let r = in_range (neg_ℤ (pos (2 ^ 63))) (pos (2 ^ 63 - 1)) s.lo s.hi e in let low = r.low in let high = r.high in let low_high = r.low_high in let high_low = r.high_low in
        ap₂ signed_interval (int_again s.lo low (omega (arith, ints))) (int_again s.hi high_low (omega (arith, ints)))

bits_again : (k : Tristate) (ps : List Part) → is_bits k.value k.mask ≡ true → bits_said ps ≡ bits_top → bits_said (bits_parts k ++ ps) ≡ k
bits_again k ps e none = by_whole (eqb k.value 0 && eqb k.mask (2 ^ 64 - 1)) refl
  where
    by_whole : (b : Bool) → (eqb k.value 0 && eqb k.mask (2 ^ 64 - 1)) ≡ b → bits_said (cond b [] (Part.bits (decimal k.value) (decimal k.mask) ∷ []) ++ ps) ≡ k
    by_whole true w = let both = both_true (eqb k.value 0) (eqb k.mask (2 ^ 64 - 1)) w in none ∙ ap₂ tristate (sym (eqb-true k.value 0 both.0)) (sym (eqb-true k.mask (2 ^ 64 - 1) both.1))
    by_whole false w = let sizes = both_true (ltb k.value (2 ^ 64)) (ltb k.mask (2 ^ 64)) (both_true (ltb k.value (2 ^ 64) && ltb k.mask (2 ^ 64)) _ e).0 in
        ap₂ tristate (number_again k.value (ltb-true k.value (2 ^ 64) sizes.0)) (number_again k.mask (ltb-true k.mask (2 ^ 64) sizes.1))

-- the parts of another kind are passed over

unsigned_past_signed : (s : SignedInterval) (ps : List Part) → unsigned_said (signed_parts s ++ ps) ≡ unsigned_said ps
unsigned_past_signed s ps = by_whole (int_eq s.lo (neg_ℤ (pos (2 ^ 63))) && int_eq s.hi (pos (2 ^ 63 - 1)))
  where
    by_whole : (b : Bool) → unsigned_said (cond b [] (Part.signed (digits_of_int s.lo) (digits_of_int s.hi) ∷ []) ++ ps) ≡ unsigned_said ps
    by_whole true = refl
    by_whole false = refl

signed_past_unsigned : (u : Interval) (ps : List Part) → signed_said (unsigned_parts u ++ ps) ≡ signed_said ps
signed_past_unsigned u ps = by_whole (eqb u.lo 0 && eqb u.hi (2 ^ 64 - 1))
  where
    by_whole : (b : Bool) → signed_said (cond b [] (Part.unsigned (decimal u.lo) (decimal u.hi) ∷ []) ++ ps) ≡ signed_said ps
    by_whole true = refl
    by_whole false = refl

bits_past_unsigned : (u : Interval) (ps : List Part) → bits_said (unsigned_parts u ++ ps) ≡ bits_said ps
bits_past_unsigned u ps = by_whole (eqb u.lo 0 && eqb u.hi (2 ^ 64 - 1))
  where
    by_whole : (b : Bool) → bits_said (cond b [] (Part.unsigned (decimal u.lo) (decimal u.hi) ∷ []) ++ ps) ≡ bits_said ps
    by_whole true = refl
    by_whole false = refl

bits_past_signed : (s : SignedInterval) (ps : List Part) → bits_said (signed_parts s ++ ps) ≡ bits_said ps
bits_past_signed s ps = by_whole (int_eq s.lo (neg_ℤ (pos (2 ^ 63))) && int_eq s.hi (pos (2 ^ 63 - 1)))
  where
    by_whole : (b : Bool) → bits_said (cond b [] (Part.signed (digits_of_int s.lo) (digits_of_int s.hi) ∷ []) ++ ps) ≡ bits_said ps
    by_whole true = refl
    by_whole false = refl

unsigned_of_bits : (k : Tristate) → unsigned_said (bits_parts k) ≡ unsigned_top
unsigned_of_bits k = by_whole (eqb k.value 0 && eqb k.mask (2 ^ 64 - 1))
  where
    by_whole : (b : Bool) → unsigned_said (cond b [] (Part.bits (decimal k.value) (decimal k.mask) ∷ [])) ≡ unsigned_top
    by_whole true = refl
    by_whole false = refl

signed_of_bits : (k : Tristate) → signed_said (bits_parts k) ≡ signed_top
signed_of_bits k = by_whole (eqb k.value 0 && eqb k.mask (2 ^ 64 - 1))
  where
    by_whole : (b : Bool) → signed_said (cond b [] (Part.bits (decimal k.value) (decimal k.mask) ∷ [])) ≡ signed_top
    by_whole true = refl
    by_whole false = refl

abbrev pub number_said : Number → NumberValue
number_said Number.top = top
number_said (Number.parts ps) = number_of_parts (bits_said ps) (unsigned_said ps) (signed_said ps)

of_parts_again : (ps : List Part) → number_said (of_parts ps) ≡ number_of_parts (bits_said ps) (unsigned_said ps) (signed_said ps)
of_parts_again [] = refl
of_parts_again (p ∷ ps) = refl

pub num_again : (n : NumberValue) → is_limited_num n ≡ true → number_said (number_of n) ≡ n
num_again n e =
    let outer = both_true (is_range n.unsigned.lo n.unsigned.hi && is_int_range (neg_ℤ (pos (2 ^ 63))) (pos (2 ^ 63 - 1)) n.signed.lo n.signed.hi) (is_bits n.bits.value n.bits.mask) e in
    let inner = both_true (is_range n.unsigned.lo n.unsigned.hi) (is_int_range (neg_ℤ (pos (2 ^ 63))) (pos (2 ^ 63 - 1)) n.signed.lo n.signed.hi) outer.0 in
    let ps = unsigned_parts n.unsigned ++ signed_parts n.signed ++ bits_parts n.bits in
    let rest = signed_parts n.signed ++ bits_parts n.bits in
    let joined = append_assoc (unsigned_parts n.unsigned) (signed_parts n.signed) (bits_parts n.bits) in
    let ended = ap (λ k. signed_parts n.signed ++ k) (sym (append-nil (bits_parts n.bits))) in
    let u = ap unsigned_said joined ∙ unsigned_again n.unsigned rest inner.0 (unsigned_past_signed n.signed (bits_parts n.bits) ∙ unsigned_of_bits n.bits) in
    let s = ap signed_said joined ∙ signed_past_unsigned n.unsigned rest ∙ signed_again n.signed (bits_parts n.bits) inner.1 (signed_of_bits n.bits) in
    let k = ap bits_said joined ∙ bits_past_unsigned n.unsigned rest ∙ ap bits_said ended ∙ bits_past_signed n.signed (bits_parts n.bits ++ []) ∙ bits_again n.bits [] outer.1 refl in
    of_parts_again ps ∙ ap (λ x. number_of_parts x (unsigned_said ps) (signed_said ps)) k ∙ ap (λ x. number_of_parts n.bits x (signed_said ps)) u ∙ ap (number_of_parts n.bits n.unsigned) s

-- contents

abbrev pub pointer_to : Area → ℤ → ℤ → Pointer
pointer_to a lo hi = record { area = a; lo = lo; hi = hi }

abbrev pub content_said : Content → SlotState
content_said (Content.number n) = slot.Word (number_said n)
content_said (Content.context lo hi) = slot.Spilled (pointer_to area.Context (signed_number lo) (signed_number hi))
content_said (Content.frame lo hi) = slot.Spilled (pointer_to area.Frame (signed_number lo) (signed_number hi))
content_said (Content.bytes mask) = slot.Bytes (number mask)
content_said Content.any = slot.Bytes 0

bounds_again : (lo hi : ℤ) → is_pointer_range lo hi ≡ true → (signed_number (digits_of_int lo) ≡ lo) × (signed_number (digits_of_int hi) ≡ hi)
bounds_again lo hi e = let r = in_range (neg_ℤ (pos (2 ^ 31))) (pos (2 ^ 31)) lo hi e in let low = r.low in let high = r.high in let low_high = r.low_high in let high_low = r.high_low in
    (int_again lo (omega (arith, ints)) (omega (arith, ints)), int_again hi (omega (arith, ints)) (omega (arith, ints)))

bounds_said : (a : Area) (lo hi : SignedDigits) → content_said (bounds_in a lo hi) ≡ slot.Spilled (pointer_to a (signed_number lo) (signed_number hi))
bounds_said area.Context lo hi = refl
bounds_said area.Frame lo hi = refl

pub content_again : (s : SlotState) → is_limited_slot s ≡ true → content_said (content_of s) ≡ s
content_again (slot.Bytes m) e = let few : m ≤ 254 = leb-true m 254 e in ap slot.Bytes (number_again m (omega arith))
content_again (slot.Word n) e = ap slot.Word (num_again n e)
content_again (slot.Spilled p) e = let b = bounds_again p.lo p.hi e in bounds_said p.area (digits_of_int p.lo) (digits_of_int p.hi) ∙ ap slot.Spilled (ap₂ (pointer_to p.area) b.0 b.1)

-- places and terms

abbrev pub register_said : ℕ → Reg
register_said n = get_or (R0 ∷ R1 ∷ R2 ∷ R3 ∷ R4 ∷ R5 ∷ R6 ∷ R7 ∷ R8 ∷ R9 ∷ []) n R10

register_again : (r : Reg) → register_said (register_number r) ≡ r
register_again R0 = refl
register_again R1 = refl
register_again R2 = refl
register_again R3 = refl
register_again R4 = refl
register_again R5 = refl
register_again R6 = refl
register_again R7 = refl
register_again R8 = refl
register_again R9 = refl
register_again R10 = refl

abbrev pub place_said : PlaceText → Place
place_said (PlaceText.register i) = place.Register (register_said (number i))
place_said (PlaceText.slot k) = place.Slot (number k)

place_again : (p : Place) → is_limited_place p ≡ true → place_said (spelled_place p) ≡ p
place_again (place.Register r) e = let few : register_number r ≤ 9 = leb-true (register_number r) 9 e in
    ap place.Register (ap register_said (number_again (register_number r) (omega arith)) ∙ register_again r)
place_again (place.Slot k) e = let few : k ≤ 64 = leb-true k 64 (both_true (leb 1 k) (leb k 64) e).1 in ap place.Slot (number_again k (omega arith))

abbrev pub measure_said : MeasureText → Measure
measure_said (MeasureText.down p) = measure.Down (place_said p)
measure_said (MeasureText.up limit p) = measure.Up (place_said p) (number limit)

measure_again : (m : Measure) → is_limited_measure m ≡ true → measure_said (measure_of m) ≡ m
measure_again (measure.Down p) e = ap measure.Down (place_again p e)
measure_again (measure.Up p limit) e = let parts = both_true (ltb limit (2 ^ 64)) (is_limited_place p) e in
    ap₂ measure.Up (place_again p parts.1) (number_again limit (ltb-true limit (2 ^ 64) parts.0))

abbrev pub term_said : TermText → Term
term_said t = record { weight = number t.weight; measure = measure_said t.measure }

term_again : (t : Term) → is_limited_term t ≡ true → term_said (term_of t) ≡ t
term_again t e =
    let parts = both_true (is_from_to 1 (2 ^ 20) t.weight) (is_limited_measure t.measure) e in
    let few : t.weight ≤ 2 ^ 20 = leb-true t.weight (2 ^ 20) (both_true (leb 1 t.weight) (leb t.weight (2 ^ 20)) parts.0).1 in
    ap (λ w. record { weight = w; measure = measure_said (measure_of t.measure) }) (number_again t.weight (omega arith)) ∙ ap (λ m. record { weight = t.weight; measure = m }) (measure_again t.measure parts.1)

pub terms_again : (ts : List Term) → list_all is_limited_term ts ≡ true → map term_said (map term_of ts) ≡ ts
terms_again [] e = refl
terms_again (t ∷ ts) e = let parts = both_true (is_limited_term t) (list_all is_limited_term ts) e in ap₂ ◌∷◌ (term_again t parts.0) (terms_again ts parts.1)
