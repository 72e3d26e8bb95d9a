-- What places hold, and what abstract states tell of it.
use Rattle.std.proofs.Common.{◌++◌, take, drop, ◌≡◌, ℕ, zero, suc, ◌+◌, ◌-◌, ◌≤◌, ◌<◌, refl, sym, ap, ◌∙◌, subst, arith, pos, Bool, true, false, List, [], ◌∷◌, length, get_or, slice_get, slice_index, slice_set, replicate, Option, Some, None, is_some, cond, option_map, option_and_then, ext_get_or, length-set}
use Rattle.std.proofs.lemmas.Bool.{and_parts, false≢true, true≢false}
use Rattle.std.proofs.lemmas.Int.{ints}
use Rattle.bpf_insn.specs.declared.order.Order.{Order}
use Rattle.bpf_insn.specs.declared.instruction.Reg.{Reg}
use Rattle.bpf_insn.specs.declared.instruction.Reg.TheVariants.{R0, R1, R2, R3, R4, R5, R6, R7, R8, R9, R10}
use Rattle.bpf_semantics.specs.declared.value.Value.TheVariants.{Number as NumberValue}
use Rattle.bpf_insn.specs.Instruction.{register_number}
use Rattle.bpf_insn.specs.Order.{number_of}
use Rattle.bpf_insn.proofs.RegisterLemmas.{reg_below}
use Rattle.bpf_semantics.specs.State as machine
use Rattle.bpf_semantics.specs.State.{Cell}
use Rattle.bpf_semantics.specs.State.Cell.{Byte, Part}
use Rattle.bpf_num.specs.Interval.{Interval}
use Rattle.bpf_num.specs.Number.{Number, tighten}
use Rattle.bpf_state.specs.declared.known.RegState.{RegState}
use Rattle.bpf_state.specs.declared.known.RegState.TheVariants.{Any, Num, Ptr}
use Rattle.bpf_state.specs.declared.known.SlotState.{SlotState}
use Rattle.bpf_state.specs.declared.known.SlotState.TheVariants.{Bytes, Word, Spilled}
use Rattle.bpf_state.specs.declared.known.Area.TheVariants.{Frame}
use Rattle.bpf_state.specs.declared.known.Tag.{Tag}
use Rattle.bpf_state.specs.State.{IsPlace, is_frame, start_of, callee_state, without_frame, each_without_frame, AbstractState, register, register_tag, slot, slot_tag, slot_value, no_tags, each_if, tightened, tightened_register, tightened_slot, IsAbstract}
use Rattle.bpf_safety.specs.Describes.{Describes, IsStored, slot_cell, DescribesRegister, DescribesSlot, TaggedRegister, TaggedSlot, IsTagged}
use Rattle.bpf_state.specs.Entails.{state_entails, register_entails, slot_entails, all_pairs}
use Rattle.bpf_state.specs.declared.known.Place.{Place}
use Rattle.bpf_cert.specs.declared.certificate.Term.{Term}
use Rattle.bpf_state.specs.declared.known.Place.TheVariants.{Register, Slot}
use Rattle.bpf_state.specs.Held.{held}
use Rattle.bpf_state.specs.State.{tag as tag_of}
use Rattle.bpf_safety.specs.Budget.{unsigned_bounds, bounds, place_of}
use Rattle.bpf_safety.specs.Flow.{with_term, with_tags}
use Rattle.bpf_safety.proofs.Basics.{some_is}
use Rattle.bpf_safety.proofs.Here.{HoldsNumber}

-- ---- a place holds one number

number_is : (a b : ℕ) → Some (NumberValue a) ≡ Some (NumberValue b) → a ≡ b
number_is a b e = cc

byte_is : (a b : ℕ) → Some (Byte a) ≡ Some (Byte b) → a ≡ b
byte_is a b e = cc

stored_once : (order : Order) (a b : ℕ) (cell : ℕ → Option Cell) → IsStored order a cell → IsStored order b cell → a ≡ b
stored_once order a b cell f g =
    let long : length f.0 ≡ length g.0 = f.1 ∙ sym g.1 in
    let eight = f.1 in
    let same : f.0 ≡ g.0 = ext_get_or 0 f.0 g.0 long (λ i lt. byte_is (slice_index f.0 i) (slice_index g.0 i) (sym (f.2 i (omega arith)) ∙ g.2 i (omega arith))) in
    f.3 ∙ ap (number_of order 8) same ∙ sym g.3

pub holds_once : (order : Order) (m : machine.State) (place : Place) (a b : ℕ) → HoldsNumber order m place a → HoldsNumber order m place b → a ≡ b
holds_once order m (Register r) a b f g = number_is a b (sym f ∙ g)
holds_once order m (Slot k) a b f g = stored_once order a b (slot_cell m k) f.2 g.2

-- ---- what a state tells of a number

pub record HoldsWithin (order : Order) (m : machine.State) (place : Place) (r : Interval) : Type 0 where
  pub value : ℕ
  pub holds : HoldsNumber order m place value
  pub low : r.lo ≤ value
  pub high : value ≤ r.hi

pub record HoldsTagged (order : Order) (m : machine.State) (place : Place) (x : List ℕ) (tag : Tag) : Type 0 where
  pub value : ℕ
  pub holds : HoldsNumber order m place value
  pub tagged : IsTagged x tag value

module _ (order : Order) (least most : ℕ) (x : List ℕ) (s : AbstractState) (m : machine.State) (d : Describes order least most x s m) where
  in_register : (r : Reg) (v : RegState) (b : Interval) → register s r ≡ v → unsigned_bounds v ≡ Some b → HoldsWithin order m (Register r) b
  in_register r (Num n) b e f =
      let h = subst (λ v. DescribesRegister (machine.depth m) v (machine.register m r)) e (d.registers r) in
      let same : n.unsigned ≡ b = some_is n.unsigned b f in
      record { value = h.0; holds = h.1; low = subst (λ i. i.lo ≤ h.0) same h.2.unsigned.above; high = subst (λ i. h.0 ≤ i.hi) same h.2.unsigned.below }
  in_register r v b e f = absurd (false≢true (ap is_some f))

  in_slot : (k : ℕ) (v : SlotState) (b : Interval) → 1 ≤ k → k ≤ 64 → slot s k ≡ v → unsigned_bounds (slot_value v) ≡ Some b → HoldsWithin order m (Slot k) b
  in_slot k (Word n) b low high e f =
      let h = subst (λ v. DescribesSlot order (machine.depth m) v (slot_cell m k)) e (d.slots k low high) in
      let same : n.unsigned ≡ b = some_is n.unsigned b f in
      record { value = h.0; holds = (low, high, h.1); low = subst (λ i. i.lo ≤ h.0) same h.2.unsigned.above; high = subst (λ i. h.0 ≤ i.hi) same h.2.unsigned.below }
  in_slot k (Bytes mask) b low high e f = absurd (false≢true (ap is_some f))
  in_slot k (Spilled p) b low high e f = absurd (false≢true (ap is_some f))

  holds_within : (place : Place) (b : Interval) → IsPlace place → unsigned_bounds (held s place) ≡ Some b → HoldsWithin order m place b
  holds_within (Register r) b is f = in_register r (register s r) b refl f
  holds_within (Slot k) b is f = in_slot k (slot s k) b is.0 is.1 refl f

  pub term_within : (t : Term) (b : Interval) → IsPlace (place_of t) → bounds s t ≡ Some b → HoldsWithin order m (place_of t) b
  term_within t b is f = holds_within (place_of t) b is f

  tag_in_register : (r : Reg) (tag : Tag) → register_tag s r ≡ Some tag → HoldsTagged order m (Register r) x tag
  tag_in_register r tag e =
      let h = subst (λ o. TaggedRegister x o (machine.register m r)) e (d.register_tags r) in
      record { value = h.0; holds = h.1; tagged = h.2 }

  tag_in_slot : (k : ℕ) (tag : Tag) → 1 ≤ k → k ≤ 64 → slot_tag s k ≡ Some tag → HoldsTagged order m (Slot k) x tag
  tag_in_slot k tag low high e =
      let h = subst (λ o. TaggedSlot order x o (slot_cell m k)) e (d.slot_tags k low high) in
      record { value = h.0; holds = (low, high, h.1); tagged = h.2 }

  pub holds_tagged : (place : Place) (tag : Tag) → IsPlace place → tag_of s place ≡ Some tag → HoldsTagged order m place x tag
  holds_tagged (Register r) tag is e = tag_in_register r tag e
  holds_tagged (Slot k) tag is e = tag_in_slot k tag is.0 is.1 e

-- ---- a state that lies in another has numbers where that one has

pairs_at : {A : Type 0} (test : A → A → Bool) (xs ys : List A) (d : A) (i : ℕ) → length xs ≡ length ys → i < length xs → all_pairs test xs ys ≡ true → test (get_or xs i d) (get_or ys i d) ≡ true
pairs_at test [] ys d i long lt e = absurd (omega arith)
pairs_at test (x ∷ xs) [] d i long lt e = absurd (omega arith)
pairs_at test (x ∷ xs) (y ∷ ys) d zero long lt e = (and_parts (test x y) (all_pairs test xs ys) e).0
pairs_at test (x ∷ xs) (y ∷ ys) d (suc i) long lt e = pairs_at test xs ys d i (omega arith) (omega arith) (and_parts (test x y) (all_pairs test xs ys) e).1

abbrev pub IsBounded : RegState → Type 0
IsBounded v = (b : Interval) × (unsigned_bounds v ≡ Some b)

unbounded : {A : Type 0} (v : RegState) → unsigned_bounds v ≡ None → IsBounded v → A
unbounded v e b = absurd (true≢false (sym (ap is_some b.1) ∙ ap is_some e))

entailed_register : (a b : RegState) → register_entails a b ≡ true → IsBounded b → IsBounded a
entailed_register (Num n) (Num k) e h = (n.unsigned, refl)
entailed_register Any (Num k) e h = absurd (false≢true e)
entailed_register (Ptr p) (Num k) e h = absurd (false≢true e)
entailed_register a Any e h = unbounded Any refl h
entailed_register a (Ptr q) e h = unbounded (Ptr q) refl h

entailed_slot : (a b : SlotState) → slot_entails a b ≡ true → IsBounded (slot_value b) → IsBounded (slot_value a)
entailed_slot (Word n) (Word k) e h = (n.unsigned, refl)
entailed_slot (Bytes mask) (Word k) e h = absurd (false≢true e)
entailed_slot (Spilled p) (Word k) e h = absurd (false≢true e)
entailed_slot a (Bytes mask) e h = unbounded Any refl h
entailed_slot a (Spilled q) e h = unbounded (Ptr q) refl h

pub entailed_bounds : (s t : AbstractState) (place : Place) → IsAbstract s → IsAbstract t → IsPlace place → state_entails s t ≡ true → IsBounded (held t place) → IsBounded (held s place)
entailed_bounds s t (Register r) valid valid' is e h =
    let below = reg_below r in
    let long = valid.eleven in
    let long' = valid'.eleven in
    entailed_register (register s r) (register t r) (pairs_at register_entails s.registers t.registers Any (register_number r) (omega arith) (omega arith) (and_parts (all_pairs register_entails s.registers t.registers) (all_pairs slot_entails s.slots t.slots) e).0) h
entailed_bounds s t (Slot k) valid valid' is e h =
    let low = is.0 in
    let high = is.1 in
    let long = valid.slots_are in
    let long' = valid'.slots_are in
    entailed_slot (slot s k) (slot t k) (pairs_at slot_entails s.slots t.slots (Bytes 0) (k - 1) (omega arith) (omega arith) (and_parts (all_pairs register_entails s.registers t.registers) (all_pairs slot_entails s.slots t.slots) e).1) h

-- ---- tightening keeps numbers

each_if_at : {A : Type 0} (f : A → Option A) (xs ys : List A) (d : A) (i : ℕ) → f d ≡ Some d → each_if f xs ≡ Some ys → f (get_or xs i d) ≡ Some (get_or ys i d)
each_if_at f [] ys d i same e = subst (λ zs. f d ≡ Some (get_or zs i d)) (some_is [] ys e) (same ∙ refl)
each_if_at {A} f (x ∷ xs) ys d i same e = by_parts (f x) (each_if f xs) refl refl e (λ zs g j. each_if_at f xs zs d j same g) i
  where
    by_parts : (o : Option A) (q : Option (List A)) → f x ≡ o → each_if f xs ≡ q → option_and_then (λ y. option_map (λ zs. y ∷ zs) q) o ≡ Some ys → ((zs : List A) → each_if f xs ≡ Some zs → (j : ℕ) → f (get_or xs j d) ≡ Some (get_or zs j d)) → (i : ℕ) → f (get_or (x ∷ xs) i d) ≡ Some (get_or ys i d)
    by_parts (Some y) (Some zs) g h e later zero = subst (λ ws. f x ≡ Some (get_or ws 0 d)) (some_is (y ∷ zs) ys e) g
    by_parts (Some y) (Some zs) g h e later (suc i) = subst (λ ws. f (get_or xs i d) ≡ Some (get_or ws (suc i) d)) (some_is (y ∷ zs) ys e) (later zs h i)
    by_parts (Some y) None g h e later i = absurd (false≢true (ap is_some e))
    by_parts None q g h e later i = absurd (false≢true (ap is_some e))

pub record TightenedParts (s t : AbstractState) : Type 0 where
  pub registers : each_if tightened_register s.registers ≡ Some t.registers
  pub slots : each_if tightened_slot s.slots ≡ Some t.slots

tightened_parts : (s t : AbstractState) → tightened s ≡ Some t → TightenedParts s t
tightened_parts s t e = by_parts (each_if tightened_register s.registers) (each_if tightened_slot s.slots) refl refl e
  where
    by_parts : (a : Option (List RegState)) (b : Option (List SlotState)) → each_if tightened_register s.registers ≡ a → each_if tightened_slot s.slots ≡ b → option_and_then (λ registers. option_map (λ slots. record s { registers = registers; slots = slots }) b) a ≡ Some t → TightenedParts s t
    by_parts (Some rs) (Some ss) f g e = let same = some_is (record s { registers = rs; slots = ss }) t e in record { registers = f ∙ ap (λ z. Some z.registers) same; slots = g ∙ ap (λ z. Some z.slots) same }
    by_parts (Some rs) None f g e = absurd (false≢true (ap is_some e))
    by_parts None b f g e = absurd (false≢true (ap is_some e))

tightened_bounded : (v w : RegState) → tightened_register v ≡ Some w → IsBounded v → IsBounded w
tightened_bounded (Num n) w e h = by_result (tighten n) e
  where
    by_result : (o : Option Number) → option_map Num o ≡ Some w → IsBounded w
    by_result (Some k) e = subst IsBounded (some_is (Num k) w e) (k.unsigned, refl)
    by_result None e = absurd (false≢true (ap is_some e))
tightened_bounded Any w e h = unbounded Any refl h
tightened_bounded (Ptr p) w e h = unbounded (Ptr p) refl h

tightened_slot_bounded : (v w : SlotState) → tightened_slot v ≡ Some w → IsBounded (slot_value v) → IsBounded (slot_value w)
tightened_slot_bounded (Word n) w e h = by_result (tighten n) e
  where
    by_result : (o : Option Number) → option_map Word o ≡ Some w → IsBounded (slot_value w)
    by_result (Some k) e = subst (λ u. IsBounded (slot_value u)) (some_is (Word k) w e) (k.unsigned, refl)
    by_result None e = absurd (false≢true (ap is_some e))
tightened_slot_bounded (Bytes mask) w e h = unbounded Any refl h
tightened_slot_bounded (Spilled p) w e h = unbounded (Ptr p) refl h

pub tightened_bounds : (s t : AbstractState) (place : Place) → tightened s ≡ Some t → IsBounded (held s place) → IsBounded (held t place)
tightened_bounds s t (Register r) e h = tightened_bounded (register s r) (register t r) (each_if_at tightened_register s.registers t.registers Any (register_number r) refl (tightened_parts s t e).registers) h
tightened_bounds s t (Slot k) e h = tightened_slot_bounded (slot s k) (slot t k) (each_if_at tightened_slot s.slots t.slots (Bytes 0) (k - 1) refl (tightened_parts s t e).slots) h

-- ---- tags

abbrev pub untagged : AbstractState → AbstractState
untagged s = record s { register_tags = no_tags 11; slot_tags = no_tags 64 }

none_in : (n i : ℕ) → get_or (no_tags n) i None ≡ None
none_in zero i = refl
none_in (suc n) zero = refl
none_in (suc n) (suc i) = none_in n i

pub untagged_describes : (order : Order) (least most : ℕ) (x y : List ℕ) (s : AbstractState) (m : machine.State) → Describes order least most x s m → Describes order least most y (untagged s) m
untagged_describes order least most x y s m d =
    record {
      length_within = d.length_within;
      registers = d.registers;
      slots = d.slots;
      register_tags = λ r. subst (λ o. TaggedRegister y o (machine.register m r)) (sym (none_in 11 (register_number r))) tt;
      slot_tags = λ k low high. subst (λ o. TaggedSlot order y o (slot_cell m k)) (sym (none_in 64 (k - 1))) tt;
    }

pub untagged_abstract : (s : AbstractState) → IsAbstract s → IsAbstract (untagged s)
untagged_abstract s v = record { eleven = v.eleven; slots_are = v.slots_are; eleven_tags = refl; slot_tags_are = refl; registers = v.registers; slots = v.slots }

pub tightened_untagged : (s : AbstractState) → tightened (untagged s) ≡ option_map untagged (tightened s)
tightened_untagged s = by_parts (each_if tightened_register s.registers) (each_if tightened_slot s.slots)
  where
    by_parts : (a : Option (List RegState)) (b : Option (List SlotState)) → option_and_then (λ registers. option_map (λ slots. record (untagged s) { registers = registers; slots = slots }) b) a ≡ option_map untagged (option_and_then (λ registers. option_map (λ slots. record s { registers = registers; slots = slots }) b) a)
    by_parts (Some rs) (Some ss) = refl
    by_parts (Some rs) None = refl
    by_parts None b = refl

pub held_untagged : (s : AbstractState) (place : Place) → held (untagged s) place ≡ held s place
held_untagged s (Register r) = refl
held_untagged s (Slot k) = refl

held_tag : (j : ℕ) (at place : Place) (s : AbstractState) → held (with_term j at s) place ≡ held s place
held_tag j (Register r) (Register q) s = refl
held_tag j (Register r) (Slot k) s = refl
held_tag j (Slot k) (Register q) s = refl
held_tag j (Slot k) (Slot i) s = refl

pub held_tags : (j : ℕ) (ts : List Term) (place : Place) (s : AbstractState) → held (with_tags j ts s) place ≡ held s place
held_tags j [] place s = refl
held_tags j (t ∷ ts) place s = held_tag j (place_of t) place (with_tags (suc j) ts s) ∙ held_tags (suc j) ts place s

abstract_tag : (j : ℕ) (at : Place) (s : AbstractState) → IsAbstract s → IsAbstract (with_term j at s)
abstract_tag j (Register r) s v = record { eleven = v.eleven; slots_are = v.slots_are; eleven_tags = length-set s.register_tags (register_number r) (Some (record { term = j; offset = pos 0 })) ∙ v.eleven_tags; slot_tags_are = v.slot_tags_are; registers = v.registers; slots = v.slots }
abstract_tag j (Slot k) s v = record { eleven = v.eleven; slots_are = v.slots_are; eleven_tags = v.eleven_tags; slot_tags_are = length-set s.slot_tags (k - 1) (Some (record { term = j; offset = pos 0 })) ∙ v.slot_tags_are; registers = v.registers; slots = v.slots }

pub abstract_tags : (j : ℕ) (ts : List Term) (s : AbstractState) → IsAbstract s → IsAbstract (with_tags j ts s)
abstract_tags j [] s v = v
abstract_tags j (t ∷ ts) s v = abstract_tag j (place_of t) (with_tags (suc j) ts s) (abstract_tags (suc j) ts s v)

set_either : {A : Type 0} (P : A → Type 0) (xs : List A) (i j : ℕ) (v d : A) → P (get_or xs j d) → (i ≡ j → P v) → P (get_or (slice_set xs i v) j d)
set_either P [] i j v d old new = old
set_either P (x ∷ xs) zero zero v d old new = new refl
set_either P (x ∷ xs) zero (suc j) v d old new = old
set_either P (x ∷ xs) (suc i) zero v d old new = old
set_either P (x ∷ xs) (suc i) (suc j) v d old new = set_either P xs i j v d old (λ e. new (ap suc e))

pub record HoldsValue (order : Order) (m : machine.State) (place : Place) (y : List ℕ) (j : ℕ) : Type 0 where
  pub value : ℕ
  pub is_there : slice_get y j ≡ Some value
  pub holds : HoldsNumber order m place value

tag_describes : (order : Order) (least most : ℕ) (y : List ℕ) (j : ℕ) (at : Place) (s : AbstractState) (m : machine.State) → HoldsValue order m at y j → Describes order least most y s m → Describes order least most y (with_term j at s) m
tag_describes order least most y j (Register r) s m h d =
    record {
      length_within = d.length_within;
      registers = d.registers;
      slots = d.slots;
      register_tags = λ q. set_either (λ o. TaggedRegister y o (machine.register m q)) s.register_tags (register_number r) (register_number q) (Some (record { term = j; offset = pos 0 })) None (d.register_tags q)
          (λ e. (h.value, ap (λ n. get_or m.top.registers n None) (sym e) ∙ h.holds, (h.value, h.is_there, omega (arith, ints))));
      slot_tags = d.slot_tags;
    }
tag_describes order least most y j (Slot k) s m h d =
    record {
      length_within = d.length_within;
      registers = d.registers;
      slots = d.slots;
      register_tags = d.register_tags;
      slot_tags = λ i low high. set_either (λ o. TaggedSlot order y o (slot_cell m i)) s.slot_tags (k - 1) (i - 1) (Some (record { term = j; offset = pos 0 })) None (d.slot_tags i low high)
          (λ e. let low' = h.holds.0 in let same : k ≡ i = omega arith in (h.value, subst (λ n. IsStored order h.value (slot_cell m n)) same h.holds.2, (h.value, h.is_there, omega (arith, ints))));
    }

pub tags_describe : (order : Order) (least most : ℕ) (y : List ℕ) (j : ℕ) (ts : List Term) (s : AbstractState) (m : machine.State) → ((i : ℕ) (t : Term) → slice_get ts i ≡ Some t → HoldsValue order m (place_of t) y (j + i)) → Describes order least most y s m → Describes order least most y (with_tags j ts s) m
tags_describe order least most y j [] s m h d = d
tags_describe order least most y j (t ∷ ts) s m h d =
    tag_describes order least most y j (place_of t) (with_tags (suc j) ts s) m (subst (λ n. HoldsValue order m (place_of t) y n) (omega arith) (h 0 t refl))
    (tags_describe order least most y (suc j) ts s m (λ i u e. subst (λ n. HoldsValue order m (place_of u) y n) (omega arith) (h (suc i) u e)) d)

-- ---- the values of places

pub record HoldsValues (order : Order) (m : machine.State) (ts : List Term) : Type 0 where
  pub y : List ℕ
  pub as_many : length y ≡ length ts
  pub each : (j : ℕ) (t : Term) → slice_get ts j ≡ Some t → HoldsValue order m (place_of t) y j

pub find_values : (order : Order) (m : machine.State) (ts : List Term) → ((j : ℕ) (t : Term) → slice_get ts j ≡ Some t → (n : ℕ) × HoldsNumber order m (place_of t) n) → HoldsValues order m ts
find_values order m [] h = record { y = []; as_many = refl; each = λ j t e. absurd (false≢true (ap is_some e)) }
find_values order m (t ∷ ts) h =
    let first = h 0 t refl in
    let rest = find_values order m ts (λ j u e. h (suc j) u e) in
    record { y = first.0 ∷ rest.y; as_many = ap suc rest.as_many; each = by_index first rest }
  where
    by_index : (first : (n : ℕ) × HoldsNumber order m (place_of t) n) (rest : HoldsValues order m ts) (j : ℕ) (u : Term) → slice_get (t ∷ ts) j ≡ Some u → HoldsValue order m (place_of u) (first.0 ∷ rest.y) j
    by_index first rest zero u e = subst (λ w. HoldsValue order m (place_of w) (first.0 ∷ rest.y) 0) (some_is t u e) (record { value = first.0; is_there = refl; holds = first.1 })
    by_index first rest (suc j) u e = let r = rest.each j u e in record { value = r.value; is_there = r.is_there; holds = r.holds }

-- ---- a callee's entry: what is a number there is the same number at the CALL

no_frame : (v : RegState) (b : Interval) → unsigned_bounds (without_frame v) ≡ Some b → unsigned_bounds v ≡ Some b
no_frame (Num n) b e = e
no_frame Any b e = e
no_frame (Ptr p) b e = by_test (is_frame p.area) e
  where
    by_test : (t : Bool) → unsigned_bounds (cond t Any (Ptr p)) ≡ Some b → unsigned_bounds (Ptr p) ≡ Some b
    by_test true e = e
    by_test false e = e

abbrev entered_registers : List RegState → List RegState
entered_registers rs = Any ∷ each_without_frame (take 5 (drop 1 rs)) ++ replicate 4 Any ++ Ptr (start_of Frame) ∷ []

entered_register : (rs : List RegState) (r : Reg) (b : Interval) → length rs ≡ 11 → unsigned_bounds (get_or (entered_registers rs) (register_number r) Any) ≡ Some b → unsigned_bounds (get_or rs (register_number r) Any) ≡ Some b
entered_register [] r b long e = absurd (omega arith)
entered_register (a ∷ []) r b long e = absurd (omega arith)
entered_register (a ∷ a1 ∷ []) r b long e = absurd (omega arith)
entered_register (a ∷ a1 ∷ a2 ∷ []) r b long e = absurd (omega arith)
entered_register (a ∷ a1 ∷ a2 ∷ a3 ∷ []) r b long e = absurd (omega arith)
entered_register (a ∷ a1 ∷ a2 ∷ a3 ∷ a4 ∷ []) r b long e = absurd (omega arith)
entered_register (a ∷ a1 ∷ a2 ∷ a3 ∷ a4 ∷ a5 ∷ rs) R0 b long e = absurd (false≢true (ap is_some e))
entered_register (a ∷ a1 ∷ a2 ∷ a3 ∷ a4 ∷ a5 ∷ rs) R1 b long e = no_frame a1 b e
entered_register (a ∷ a1 ∷ a2 ∷ a3 ∷ a4 ∷ a5 ∷ rs) R2 b long e = no_frame a2 b e
entered_register (a ∷ a1 ∷ a2 ∷ a3 ∷ a4 ∷ a5 ∷ rs) R3 b long e = no_frame a3 b e
entered_register (a ∷ a1 ∷ a2 ∷ a3 ∷ a4 ∷ a5 ∷ rs) R4 b long e = no_frame a4 b e
entered_register (a ∷ a1 ∷ a2 ∷ a3 ∷ a4 ∷ a5 ∷ rs) R5 b long e = no_frame a5 b e
entered_register (a ∷ a1 ∷ a2 ∷ a3 ∷ a4 ∷ a5 ∷ rs) r b long e = absurd (false≢true (ap is_some e))

bytes_in_blank : (n i : ℕ) → get_or (replicate n (Bytes 0)) i (Bytes 0) ≡ Bytes 0
bytes_in_blank zero i = refl
bytes_in_blank (suc n) zero = refl
bytes_in_blank (suc n) (suc i) = bytes_in_blank n i

pub entered_bounds : (s : AbstractState) (place : Place) (b : Interval) → IsAbstract s → unsigned_bounds (held (callee_state s) place) ≡ Some b → unsigned_bounds (held s place) ≡ Some b
entered_bounds s (Register r) b valid e = entered_register s.registers r b valid.eleven e
entered_bounds s (Slot k) b valid e = absurd (false≢true (ap is_some (sym (ap (λ v. unsigned_bounds (slot_value v)) (bytes_in_blank 64 (k - 1))) ∙ e)))
