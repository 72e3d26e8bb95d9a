-- The limits of a certificate give what the safety theorem wants of it.
use Rattle.std.proofs.Common.{◌≡◌, ℕ, zero, suc, ◌-◌, ◌^◌, ◌≤◌, ◌<◌, ◌⊎◌, inl, inr, refl, sym, ap, ◌∙◌, subst, arith, ℤ, pos, neg_ℤ, ◌≤ℤ◌, int_le, nat_le, nat_lt, Bool, true, ◌&&◌, ◌==◌, List, [], ◌∷◌, length, get_or, slice_get, sum_by, bit_and, Some, is_some, Contains}
use Rattle.std.specs.List.{list_all}
use Rattle.std.proofs.lemmas.Bool.{and_parts, false≢true, cases_order}
use Rattle.std.proofs.lemmas.Bool.Decides.{nat_tests}
use Rattle.std.proofs.lemmas.Int.{ints}
use Rattle.bpf_insn.specs.Instruction.{register_number}
use Rattle.bpf_num.specs.Number.{Number, IsNumber}
use Rattle.bpf_state.specs.declared.known.RegState.{RegState}
use Rattle.bpf_state.specs.declared.known.RegState.TheVariants.{Any, Num, Ptr}
use Rattle.bpf_state.specs.declared.known.SlotState.{SlotState}
use Rattle.bpf_state.specs.declared.known.SlotState.TheVariants.{Bytes, Word, Spilled}
use Rattle.bpf_state.specs.declared.known.Pointer.{Pointer}
use Rattle.bpf_state.specs.declared.known.Place.{Place}
use Rattle.bpf_state.specs.declared.known.Place.TheVariants.{Register, Slot}
use Rattle.bpf_state.specs.State.{AbstractState, IsPlace, IsPointer, IsAbstract, IsAbstractRegister, IsAbstractSlot}
use Rattle.bpf_cert.specs.declared.certificate.Measure.{Measure}
use Rattle.bpf_cert.specs.declared.certificate.Measure.TheVariants.{Down, Up}
use Rattle.bpf_cert.specs.declared.certificate.Term.{Term}
use Rattle.bpf_cert.specs.View.{LabelView, FunctionView, CertificateView, header_of}
use Rattle.bpf_cert.specs.Numeral.{is_from_to}
use Rattle.bpf_cert.specs.Limits.{is_rising, is_range, is_int_range, is_bits, IsCertificate, is_limited_header, is_version, is_canonical, is_canonical_function, first_before, is_limited, is_limited_function, is_limited_label, is_limited_term, is_limited_measure, is_limited_place, is_limited_state, has_shape, is_limited_pointer, is_limited_register, is_limited_slot, is_limited_num, label_count, place_measured}
use Rattle.bpf_safety.specs.Budget.{place_of}
use Rattle.bpf_safety.specs.Labels.{labels, label_at}
use Rattle.bpf_safety.proofs.Basics.{some_is}
use Rattle.bpf_safety.proofs.Here.{IsWellFormed}
use Rattle.bpf_safety.proofs.Facts.{is_first, Contains-from_flat}

-- ---- tests

at_most : (a b : ℕ) → nat_le a b ≡ true → a ≤ b
at_most a b e = grind (arith, nat_tests)

less : (a b : ℕ) → nat_lt a b ≡ true → a < b
less a b e = grind (arith, nat_tests)

same : (a b : ℕ) → (a == b) ≡ true → a ≡ b
same a b e = grind (arith, nat_tests)

int_at_most : (a b : ℤ) → int_le a b ≡ true → a ≤ℤ b
int_at_most a b e = grind (arith, ints)

from_to : (low high n : ℕ) → is_from_to low high n ≡ true → (low ≤ n) × (n ≤ high)
from_to low high n e = let h = and_parts (nat_le low n) (nat_le n high) e in (at_most low n h.0, at_most n high h.1)

three : (a b c : Bool) → (a && b && c) ≡ true → (a ≡ true) × (b ≡ true) × (c ≡ true)
three a b c e = let h = and_parts (a && b) c e in let k = and_parts a b h.0 in (k.0, k.1, h.1)

four : (a b c d : Bool) → (a && b && c && d) ≡ true → (a ≡ true) × (b ≡ true) × (c ≡ true) × (d ≡ true)
four a b c d e = let h = and_parts (a && b && c) d e in let k = three a b c h.0 in (k.0, k.1, k.2, h.1)

five : (a b c d f : Bool) → (a && b && c && d && f) ≡ true → (a ≡ true) × (b ≡ true) × (c ≡ true) × (d ≡ true) × (f ≡ true)
five a b c d f e = let h = and_parts (a && b && c && d) f e in let k = four a b c d h.0 in (k.0, k.1, k.2, k.3, h.1)

-- what holds of all elements holds of each, and of one that stands in for what is past the end
all_or : {A : Type 0} (test : A → Bool) (xs : List A) (i : ℕ) (d : A) → list_all test xs ≡ true → test d ≡ true → test (get_or xs i d) ≡ true
all_or test [] i d e h = h
all_or test (x ∷ xs) zero d e h = (and_parts (test x) (list_all test xs) e).0
all_or test (x ∷ xs) (suc i) d e h = all_or test xs i d (and_parts (test x) (list_all test xs) e).1 h

all_in : {A : Type 0} (test : A → Bool) (xs : List A) (x : A) → list_all test xs ≡ true → Contains xs x → test x ≡ true
all_in {A} test xs x e h = subst (λ y. test y ≡ true) h.2 (at xs h.0 e h.1)
  where
    at : (ys : List A) (i : ℕ) → list_all test ys ≡ true → i < length ys → test (get_or ys i x) ≡ true
    at [] i e lt = absurd (omega arith)
    at (y ∷ ys) zero e lt = (and_parts (test y) (list_all test ys) e).0
    at (y ∷ ys) (suc i) e lt = at ys i (and_parts (test y) (list_all test ys) e).1 (omega arith)

all_at : {A : Type 0} (test : A → Bool) (xs : List A) (j : ℕ) (x : A) → list_all test xs ≡ true → slice_get xs j ≡ Some x → test x ≡ true
all_at test [] j x e h = absurd (false≢true (ap is_some h))
all_at test (y ∷ ys) zero x e h = subst (λ z. test z ≡ true) (some_is y x h) (and_parts (test y) (list_all test ys) e).0
all_at test (y ∷ ys) (suc j) x e h = all_at test ys j x (and_parts (test y) (list_all test ys) e).1 h

-- ---- values

number_fits : (n : Number) → is_limited_num n ≡ true → IsNumber n
number_fits n e =
    let parts = three (is_range n.unsigned.lo n.unsigned.hi) (is_int_range (neg_ℤ (pos (2 ^ 63))) (pos (2 ^ 63 - 1)) n.signed.lo n.signed.hi) (is_bits n.bits.value n.bits.mask) e in
    let range = and_parts (nat_le n.unsigned.hi (2 ^ 64 - 1)) (nat_le n.unsigned.lo n.unsigned.hi) parts.0 in
    let signed = three (int_le (neg_ℤ (pos (2 ^ 63))) n.signed.lo) (int_le n.signed.hi (pos (2 ^ 63 - 1))) (int_le n.signed.lo n.signed.hi) parts.1 in
    let bits = three (nat_lt n.bits.value (2 ^ 64)) (nat_lt n.bits.mask (2 ^ 64)) (bit_and n.bits.value n.bits.mask == 0) parts.2 in
    let high = at_most n.unsigned.hi (2 ^ 64 - 1) range.0 in
    record {
      bits = record { value_fits = less n.bits.value (2 ^ 64) bits.0; mask_fits = less n.bits.mask (2 ^ 64) bits.1; disjoint = same (bit_and n.bits.value n.bits.mask) 0 bits.2 };
      unsigned = record { ordered = at_most n.unsigned.lo n.unsigned.hi range.1; fits = below_end n.unsigned.hi high };
      signed = record { above = int_at_most (neg_ℤ (pos (2 ^ 63))) n.signed.lo signed.0; ordered = int_at_most n.signed.lo n.signed.hi signed.2; below = int_at_most n.signed.hi (pos (2 ^ 63 - 1)) signed.1 };
    }
  where
    below_end : (h : ℕ) → h ≤ 2 ^ 64 - 1 → h < 2 ^ 64
    below_end h le = omega arith

pointer_fits : (p : Pointer) → is_limited_pointer p ≡ true → IsPointer p
pointer_fits p e =
    int_at_most p.lo p.hi (three (int_le (neg_ℤ (pos (2 ^ 31))) p.lo) (int_le p.hi (pos (2 ^ 31))) (int_le p.lo p.hi) e).2

register_fits : (v : RegState) → is_limited_register v ≡ true → IsAbstractRegister v
register_fits Any e = tt
register_fits (Num n) e = number_fits n e
register_fits (Ptr p) e = pointer_fits p e

slot_fits : (v : SlotState) → is_limited_slot v ≡ true → IsAbstractSlot v
slot_fits (Bytes mask) e = at_most mask 254 e
slot_fits (Word n) e = number_fits n e
slot_fits (Spilled p) e = pointer_fits p e

state_fits : (s : AbstractState) → is_limited_state s ≡ true → IsAbstract s
state_fits s e =
    let h = three (has_shape s) (list_all is_limited_register s.registers) (list_all is_limited_slot s.slots) e in
    let shape = four (length s.registers == 11) (length s.slots == 64) (length s.register_tags == 11) (length s.slot_tags == 64) h.0 in
    record {
      eleven = same (length s.registers) 11 shape.0;
      slots_are = same (length s.slots) 64 shape.1;
      eleven_tags = same (length s.register_tags) 11 shape.2;
      slot_tags_are = same (length s.slot_tags) 64 shape.3;
      registers = λ r. register_fits (get_or s.registers (register_number r) Any) (all_or is_limited_register s.registers (register_number r) Any h.1 refl);
      slots = λ k low high. slot_fits (get_or s.slots (k - 1) (Bytes 0)) (all_or is_limited_slot s.slots (k - 1) (Bytes 0) h.2 refl);
    }

place_fits : (place : Place) → is_limited_place place ≡ true → IsPlace place
place_fits (Register r) e = tt
place_fits (Slot k) e = from_to 1 64 k e

measure_fits : (m : Measure) → is_limited_measure m ≡ true → IsPlace (place_measured m)
measure_fits (Down place) e = place_fits place e
measure_fits (Up place limit) e = place_fits place (and_parts (nat_lt limit (2 ^ 64)) (is_limited_place place) e).1

term_fits : (t : Term) → is_limited_term t ≡ true → IsPlace (place_of t)
term_fits t e = measure_fits t.measure (and_parts (is_from_to 1 (2 ^ 20) t.weight) (is_limited_measure t.measure) e).1

-- ---- functions that rise have one first each

rises : (fs : List FunctionView) (f g d : FunctionView) (j : ℕ) → is_rising first_before (f ∷ fs) ≡ true → j < length fs → get_or fs j d ≡ g → f.first < g.first
rises [] f g d j e lt at = absurd (omega arith)
rises (h ∷ fs) f g d zero e lt at = subst (λ k. f.first < k.first) at (less f.first h.first (and_parts (nat_lt f.first h.first) (is_rising first_before (h ∷ fs)) e).0)
rises (h ∷ fs) f g d (suc j) e lt at =
    let parts = and_parts (nat_lt f.first h.first) (is_rising first_before (h ∷ fs)) e in
    let first = less f.first h.first parts.0 in
    let rest = rises fs h g d j parts.1 (omega arith) at in
    omega arith

rises_at : (fs : List FunctionView) (f g d e : FunctionView) (i j : ℕ) → is_rising first_before fs ≡ true → i < j → j < length fs → get_or fs i d ≡ f → get_or fs j e ≡ g → f.first < g.first
rises_at [] f g d e i j rising lt long at at' = absurd (omega arith)
rises_at (h ∷ fs) f g d e i zero rising lt long at at' = absurd (omega arith)
rises_at (h ∷ fs) f g d e zero (suc j) rising lt long at at' = subst (λ k. k.first < g.first) at (rises fs h g e j rising (omega arith) at')
rises_at (h ∷ []) f g d e (suc i) (suc j) rising lt long at at' = absurd (omega arith)
rises_at (h ∷ k ∷ fs) f g d e (suc i) (suc j) rising lt long at at' = rises_at (k ∷ fs) f g d e i j (and_parts (nat_lt h.first k.first) (is_rising first_before (k ∷ fs)) rising).1 (omega arith) (omega arith) at at'

get_or_any : {A : Type 0} (xs : List A) (i : ℕ) (a b : A) → i < length xs → get_or xs i a ≡ get_or xs i b
get_or_any [] i a b lt = absurd (omega arith)
get_or_any (x ∷ xs) zero a b lt = refl
get_or_any (x ∷ xs) (suc i) a b lt = get_or_any xs i a b (omega arith)

one_first : (fs : List FunctionView) (f g : FunctionView) → is_rising first_before fs ≡ true → Contains fs f → Contains fs g → f.first ≡ g.first → f ≡ g
one_first fs f g rising h k e = by_order (cases_order h.0 k.0)
  where
    by_order : (h.0 ≡ k.0) ⊎ ((h.0 < k.0) ⊎ (k.0 < h.0)) → f ≡ g
    by_order (inl at) = sym h.2 ∙ get_or_any fs h.0 f g h.1 ∙ ap (λ n. get_or fs n g) at ∙ k.2
    by_order (inr (inl lt)) = let long = k.1 in let rise = rises_at fs f g f g h.0 k.0 rising lt long h.2 k.2 in absurd (omega arith)
    by_order (inr (inr lt)) = let long = h.1 in let rise = rises_at fs g f g f k.0 h.0 rising lt long k.2 h.2 in absurd (omega arith)

-- ---- certificates

module _ (c : CertificateView) (certificate : IsCertificate c) where
  ordered : is_rising first_before c.functions ≡ true
  ordered = (and_parts (is_rising first_before c.functions) (list_all is_canonical_function c.functions) (and_parts (is_canonical c) (is_limited c) certificate).0).0

  limits : (is_limited_header (header_of c) ≡ true) × (is_from_to 1 256 (length c.functions) ≡ true) × (nat_le (sum_by label_count c.functions) 65536 ≡ true) × (list_all is_limited_function c.functions ≡ true)
  limits = four (is_limited_header (header_of c)) (is_from_to 1 256 (length c.functions)) (nat_le (sum_by label_count c.functions) 65536) (list_all is_limited_function c.functions) (and_parts (is_canonical c) (is_limited c) certificate).1

  range : (c.least ≤ c.most) × (c.most ≤ 4096)
  range = let h = four (is_version c.version c.least c.most) (nat_le c.least c.most) (nat_le c.most 4096) (is_from_to 1 (2 ^ 32 - 1) c.steps) limits.0 in (at_most c.least c.most h.1, at_most c.most 4096 h.2)

  function_limits : (f : FunctionView) → Contains c.functions f → (nat_le f.first 65535 ≡ true) × (is_from_to 1 8 f.depth ≡ true) × (is_limited_num f.ret ≡ true) × (nat_lt 0 (length f.labels) ≡ true) × (list_all is_limited_label f.labels ≡ true)
  function_limits f h = five (nat_le f.first 65535) (is_from_to 1 8 f.depth) (is_limited_num f.ret) (nat_lt 0 (length f.labels)) (list_all is_limited_label f.labels) (all_in is_limited_function c.functions f limits.3 h)

  label_limits : (l : LabelView) (slot : ℕ) → label_at c slot ≡ Some l → (nat_le l.slot 65535 ≡ true) × (is_limited_state l.state ≡ true) × (nat_le l.base (2 ^ 40) ≡ true) × (nat_le (length l.terms) 4 ≡ true) × (list_all is_limited_term l.terms ≡ true)
  label_limits l slot e =
      let f = Contains-from_flat (λ f. f.labels) c.functions l (is_first (λ k. k.slot == slot) (labels c) l e).is_element in
      five (nat_le l.slot 65535) (is_limited_state l.state) (nat_le l.base (2 ^ 40)) (nat_le (length l.terms) 4) (list_all is_limited_term l.terms) (all_in is_limited_label f.from.labels l (function_limits f.from f.is_element).4 f.has)

  pub well_formed : IsWellFormed c
  well_formed =
      record {
        short_context = range.1;
        ordered = range.0;
        states = λ l slot e. state_fits l.state (label_limits l slot e).1;
        depths = λ f h. from_to 1 8 f.depth (function_limits f h).1;
        returns = λ f h. number_fits f.ret (function_limits f h).2;
        one_each = λ f g h k e. one_first c.functions f g ordered h k e;
        places = λ l slot j t e h. term_fits t (all_at is_limited_term l.terms j t (label_limits l slot e).4 h);
      }
