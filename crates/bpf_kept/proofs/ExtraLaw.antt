-- What the new program puts into a register or slot by itself, and what a change leaves of each fact.
use Rattle.std.proofs.Common.{◌≡◌, ℕ, ◌+◌, ◌%◌, ◌<◌, inl, inr, refl, sym, ap, ◌∙◌, subst, arith, Bool, true, false, Option, Some, None, cond}
use Rattle.std.specs.Prelude.{ℤ, pos, ◌+ℤ◌, ◌-ℤ◌, ◌&&◌, ◌||◌, not, is_none, get_or, option_map}
use Rattle.std.specs.List.{list_any}
use Rattle.std.specs.Option.{option_map_or}
use Rattle.std.proofs.lemmas.Bool.{and_parts, or_cases, eqb-true, false≢true}
use Rattle.std.proofs.lemmas.Int.{ints}
use Rattle.std.proofs.lemmas.Option.{none-some, same_Some}
use Rattle.bpf_insn.specs.Arithmetic.{modulo, extended}
use Rattle.bpf_insn.specs.Effects.{is_frame_pointer}
use Rattle.bpf_insn.specs.Limits.{frame_bytes}
use Rattle.bpf_insn.specs.Image.{HasEncoding}
use Rattle.bpf_insn.specs.Instruction.{register_number}
use Rattle.bpf_insn.specs.declared.order.Order.{Order}
use Rattle.bpf_insn.specs.declared.instruction.Reg.{Reg}
use Rattle.bpf_insn.specs.declared.instruction.Reg.TheVariants.{R0}
use Rattle.bpf_insn.specs.declared.instruction.Operand.{Operand}
use Rattle.bpf_insn.specs.declared.instruction.Operand.TheVariants.{Imm, Reg as FromReg}
use Rattle.bpf_insn.specs.declared.instruction.Width.TheVariants.{W64}
use Rattle.bpf_insn.specs.declared.instruction.AluOp.{AluOp}
use Rattle.bpf_insn.specs.declared.instruction.AluOp.TheVariants.{Add, Sub, Mov}
use Rattle.bpf_insn.specs.declared.instruction.Insn.{Insn}
use Rattle.bpf_insn.specs.declared.instruction.Insn.TheVariants.{Alu, LoadImm64, Load, Store, StoreImm}
use Rattle.bpf_semantics.specs.Flat.{FlatState, IsFlat, addresses, flat_register, flat_operand}
use Rattle.bpf_semantics.proofs.FlatArith.{Same, same_refl, same_sym, same_trans, same_plus, same_minus, same_equal, modulo-same}
use Rattle.bpf_semantics.proofs.NumberLemmas.{modulo_below}
use Rattle.bpf_kept.specs.declared.notes.Holder.{Holder}
use Rattle.bpf_kept.specs.declared.notes.Holder.TheVariants.{Register, Slot}
use Rattle.bpf_kept.specs.declared.notes.Term.{Term}
use Rattle.bpf_kept.specs.declared.notes.Fact.{Fact}
use Rattle.bpf_kept.specs.declared.notes.Change.TheVariants.{Kept, Put, Stored, Fetched, Made}
use Rattle.bpf_kept.specs.Terms.{Packet, Facts, Values, Differs, DiffersBy, Holds, AllHold, value_in, shift, constant, zero_term, frame_end, plus, minus, number_pin}
use Rattle.bpf_kept.specs.Slots.{slot_at, is_clear}
use Rattle.bpf_kept.specs.Rules.{is_holder, is_register, is_base, is_enough, gives, both, pinned}
use Rattle.bpf_kept.specs.Behind.{sum_base, difference_base, is_known, is_sum, is_difference, is_moved, made_by, made_from, of_slot, known_number, known_operand, pins, of_number, of_operand, by_operand, made, stays, outlives, by_itself, put_gives, made_gives, stored_gives, fetched_gives, holds_behind}
use Rattle.bpf_kept.proofs.TermLaw.{shift_plus, shift_minus, shift_constant, differs_same, same_differs, same_number, opposite_differs}
use Rattle.bpf_kept.proofs.HoldsLaw.{IsHigh, Elsewhere, any_holds, pinned_differs, held, none_is, base_same, enough_differs, gives_holds, stays_holds, other_holds}
use Rattle.bpf_kept.proofs.FrameLaw.{IsRoomy, IsEnd, slot_access, slot_loaded}
use Rattle.bpf_kept.proofs.PutValue.{put_value}

-- what the new program puts into a register, or stores to a slot
abbrev pub made_value : Order → Insn → FlatState → ℕ
made_value order (Store size dst off src) g = flat_register g src
made_value order (StoreImm size dst off imm) g = extended imm
made_value order m g = put_value order m g

-- a number is known by what it is to be
abbrev pub KnownAs : ℕ → Values → Fact → ℕ → Type 0
KnownAs start old fact y = DiffersBy start fact.by (old fact.base) y

moved_known : (start : ℕ) (old : Values) (b want : Fact) (y : ℕ) → IsHigh start → KnownAs start old b y → is_moved b want ≡ true → KnownAs start old want y
moved_known start old b want y high d e =
    let c = and_parts (is_base b.base want.base) (is_enough b.by want.by) e in
    enough_differs start b.by want.by (old want.base) y high c.1 (subst (λ x. DiffersBy start b.by x y) (base_same old b.base want.base c.0) d)

-- ---- sums and differences

record AreBoth (combine : Term → Term → Term) (a b : Fact) (want : Option Term) : Type 0 where
  left : Term
  right : Term
  left_is : a.by ≡ Some left
  right_is : b.by ≡ Some right
  enough : is_enough (Some (combine left right)) want ≡ true

are_both : (combine : Term → Term → Term) (a b : Fact) (want : Option Term) → is_known (both combine a.by b.by) want ≡ true → AreBoth combine a b want
are_both combine a b want e = by_left a.by refl e
  where
    by_right : (t : Term) → a.by ≡ Some t → (o : Option Term) → b.by ≡ o → is_known (option_map (combine t) o) want ≡ true → AreBoth combine a b want
    by_right t et None eo h = absurd (false≢true h)
    by_right t et (Some u) eo h = record { left = t; right = u; left_is = et; right_is = eo; enough = h }

    by_left : (o : Option Term) → a.by ≡ o → is_known (both combine o b.by) want ≡ true → AreBoth combine a b want
    by_left None eo h = absurd (false≢true h)
    by_left (Some t) eo h = by_right t eo b.by refl h

sum_bases : (old : Values) (a b want : Option Holder) → old None ≡ 0 → sum_base a b want ≡ true → pos (old a) +ℤ pos (old b) ≡ pos (old want)
sum_bases old a b want zero e = elim (or_cases (is_none a && is_base b want) (is_none b && is_base a want) e) [
  | inl h ↦ (let c = and_parts (is_none a) (is_base b want) h in let none : old a ≡ 0 = none_is old a c.0 ∙ zero in let same = base_same old b want c.1 in omega (arith, ints))
  | inr h ↦ (let c = and_parts (is_none b) (is_base a want) h in let none : old b ≡ 0 = none_is old b c.0 ∙ zero in let same = base_same old a want c.1 in omega (arith, ints))
]

difference_bases : (old : Values) (a b want : Option Holder) → old None ≡ 0 → difference_base a b want ≡ true → pos (old a) -ℤ pos (old b) ≡ pos (old want)
difference_bases old a b want zero e = elim (or_cases (is_none b && is_base a want) (is_base a b && is_none want) e) [
  | inl h ↦ (let c = and_parts (is_none b) (is_base a want) h in let none : old b ≡ 0 = none_is old b c.0 ∙ zero in let same = base_same old a want c.1 in omega (arith, ints))
  | inr h ↦ (let c = and_parts (is_base a b) (is_none want) h in let same = base_same old a b c.0 in let none : old want ≡ 0 = none_is old want c.1 ∙ zero in omega (arith, ints))
]

sum_same : (xa xb y z : ℕ) (s t : ℤ) → Same (pos y) (pos xa +ℤ s) → Same (pos z) (pos xb +ℤ t) → Same (pos ((y + z) % addresses)) ((pos xa +ℤ pos xb) +ℤ (s +ℤ t))
sum_same xa xb y z s t p q =
    let again : (pos xa +ℤ s) +ℤ (pos xb +ℤ t) ≡ (pos xa +ℤ pos xb) +ℤ (s +ℤ t) = omega (arith, ints) in
    let left : Same (pos ((y + z) % addresses)) (pos y +ℤ pos z) = modulo-same (pos (y + z)) in
    same_trans left (same_trans (same_plus p q) (same_equal again))

difference_same : (xa xb y z : ℕ) (s t : ℤ) → Same (pos y) (pos xa +ℤ s) → Same (pos z) (pos xb +ℤ t) → Same (pos (modulo (pos y -ℤ pos z) addresses)) ((pos xa -ℤ pos xb) +ℤ (s -ℤ t))
difference_same xa xb y z s t p q =
    let again : (pos xa +ℤ s) -ℤ (pos xb +ℤ t) ≡ (pos xa -ℤ pos xb) +ℤ (s -ℤ t) = omega (arith, ints) in
    same_trans (modulo-same (pos y -ℤ pos z)) (same_trans (same_minus p q) (same_equal again))

by_term : (start : ℕ) (old : Values) (fact : Fact) (t : Term) (y : ℕ) → fact.by ≡ Some t → KnownAs start old fact y → Same (pos y) (pos (old fact.base) +ℤ shift start t)
by_term start old fact t y e d = differs_same start t (old fact.base) y (subst (λ by. DiffersBy start by (old fact.base) y) e d)

sum_known : (start : ℕ) (old : Values) (a b want : Fact) (y z : ℕ) → IsHigh start → old None ≡ 0 → KnownAs start old a y → KnownAs start old b z → (sum_base a.base b.base want.base && is_known (both plus a.by b.by) want.by) ≡ true → KnownAs start old want ((y + z) % addresses)
sum_known start old a b want y z high zero ha hb e =
    let c = and_parts (sum_base a.base b.base want.base) (is_known (both plus a.by b.by) want.by) e in
    let t = are_both plus a b want.by c.1 in
    let all = same_trans (sum_same (old a.base) (old b.base) y z (shift start t.left) (shift start t.right) (by_term start old a t.left y t.left_is ha) (by_term start old b t.right z t.right_is hb)) (same_plus (same_equal (sum_bases old a.base b.base want.base zero c.0)) (same_sym (shift_plus start t.left t.right))) in
    enough_differs start (Some (plus t.left t.right)) want.by (old want.base) ((y + z) % addresses) high t.enough (same_differs start (plus t.left t.right) (old want.base) ((y + z) % addresses) (omega arith) all)

difference_known : (start : ℕ) (old : Values) (a b want : Fact) (y z : ℕ) → IsHigh start → old None ≡ 0 → KnownAs start old a y → KnownAs start old b z → (difference_base a.base b.base want.base && is_known (both minus a.by b.by) want.by) ≡ true → KnownAs start old want (modulo (pos y -ℤ pos z) addresses)
difference_known start old a b want y z high zero ha hb e =
    let c = and_parts (difference_base a.base b.base want.base) (is_known (both minus a.by b.by) want.by) e in
    let t = are_both minus a b want.by c.1 in
    let w : ℕ = modulo (pos y -ℤ pos z) addresses in
    let all = same_trans (difference_same (old a.base) (old b.base) y z (shift start t.left) (shift start t.right) (by_term start old a t.left y t.left_is ha) (by_term start old b t.right z t.right_is hb)) (same_plus (same_equal (difference_bases old a.base b.base want.base zero c.0)) (same_sym (shift_minus start t.left t.right))) in
    enough_differs start (Some (minus t.left t.right)) want.by (old want.base) w high t.enough (same_differs start (minus t.left t.right) (old want.base) w (modulo_below (pos y -ℤ pos z)) all)

-- ---- operands

pub constant_known : (start n : ℕ) → n < addresses → Differs start (constant n) 0 n
constant_known start n small = same_differs start (constant n) 0 n small (same_equal (let e = shift_constant start n in omega (arith, ints)))

pub end_known : (start y : ℕ) → y ≡ (start + frame_bytes) % addresses → Differs start frame_end 0 y
end_known start y e =
    let s : Same (pos y) (pos (start + frame_bytes)) = subst (λ y. Same (pos y) (pos (start + frame_bytes))) (sym e) (modulo-same (pos (start + frame_bytes))) in
    same_differs start frame_end 0 y (omega arith) (same_trans s (record { p = 0; q = start; same = omega (arith, ints) }))

-- a constant, by what 0 is
shifted_known : (start x n : ℕ) (t : Term) → n < addresses → Differs start t x 0 → Differs start (plus t (constant n)) x n
shifted_known start x n t small d =
    let zero_is : Same (pos 0) (pos x +ℤ shift start t) = differs_same start t x 0 d in
    let sum : Same (pos 0 +ℤ pos n) ((pos x +ℤ shift start t) +ℤ pos n) = same_plus zero_is (same_refl (pos n)) in
    let again : (pos x +ℤ shift start t) +ℤ pos n ≡ pos x +ℤ (shift start t +ℤ pos n) = omega (arith, ints) in
    let by : Same (shift start (plus t (constant n))) (shift start t +ℤ pos n) = same_trans (shift_plus start t (constant n)) (same_plus (same_refl (shift start t)) (same_equal (shift_constant start n))) in
    let first : pos n ≡ pos 0 +ℤ pos n = omega (arith, ints) in
    same_differs start (plus t (constant n)) x n small (same_trans (same_equal first) (same_trans sum (same_trans (same_equal again) (same_plus (same_refl (pos x)) (same_sym by)))))

pub of_number_is : (start : ℕ) (old new : Values) (n : ℕ) (fact b : Fact) → new None ≡ 0 → n < addresses → Holds start old new fact → of_number n fact ≡ Some b → KnownAs start old b n
of_number_is start old new n fact b zero small h e = by_test (is_none fact.of) refl e
  where
    by_by : (o : Option Term) → fact.by ≡ o → is_none fact.of ≡ true → option_map (λ t. record { of = None; base = fact.base; by = Some (plus t (constant n)) }) o ≡ Some b → KnownAs start old b n
    by_by None eo ec m = absurd (none-some _ m)
    by_by (Some t) eo ec m =
        let d : DiffersBy start (Some t) (old fact.base) (new fact.of) = subst (λ by. DiffersBy start by (old fact.base) (new fact.of)) eo h in
        subst (λ b. KnownAs start old b n) (same_Some _ b m)
        (shifted_known start (old fact.base) n t small (subst (λ y. Differs start t (old fact.base) y) (none_is new fact.of ec ∙ zero) d))

    by_test : (c : Bool) → is_none fact.of ≡ c → cond c (option_map (λ t. record { of = None; base = fact.base; by = Some (plus t (constant n)) }) fact.by) None ≡ Some b → KnownAs start old b n
    by_test false ec m = absurd (none-some _ m)
    by_test true ec m = by_by fact.by refl ec m

-- ---- what is made

module _ (order : Order) (start : ℕ) (packet : Packet) (facts : Facts) (f g : FlatState) (high : IsHigh start) (room : IsRoomy start) (flat : IsFlat g) (end : IsEnd start g.registers) (all : AllHold start (value_in order start packet f) (value_in order start packet g) facts) where
  abbrev old : Values
  old = value_in order start packet f

  abbrev new : Values
  new = value_in order start packet g

  known_operand_is : (src : Operand) (b : Fact) → known_operand src ≡ Some b → KnownAs start old b (flat_operand g src)
  known_operand_is (Imm imm) b e = subst (λ b. KnownAs start old b (extended imm)) (same_Some (known_number None (constant (extended imm))) b e) (constant_known start (extended imm) (modulo_below imm))
  known_operand_is (FromReg r) b e = by_test (is_frame_pointer r) refl e
    where
      by_test : (c : Bool) → is_frame_pointer r ≡ c → cond c (Some (known_number (Some (Register r)) frame_end)) None ≡ Some b → KnownAs start old b (flat_register g r)
      by_test false ec h = absurd (none-some _ h)
      by_test true ec h = subst (λ b. KnownAs start old b (flat_register g r)) (same_Some (known_number (Some (Register r)) frame_end) b h) (end_known start (flat_register g r) (ap (λ n. get_or g.registers n 0) (eqb-true (register_number r) 10 ec) ∙ end))

  of_operand_is : (src : Operand) (fact b : Fact) → Holds start old new fact → of_operand src fact ≡ Some b → KnownAs start old b (flat_operand g src)
  of_operand_is (Imm imm) fact b h e = of_number_is start old new (extended imm) fact b refl (modulo_below imm) h e
  of_operand_is (FromReg r) fact b h e = by_test (is_register r fact.of) refl e
    where
      by_test : (c : Bool) → is_register r fact.of ≡ c → cond c (Some fact) None ≡ Some b → KnownAs start old b (flat_register g r)
      by_test false ec n = absurd (none-some _ n)
      by_test true ec n = subst (λ b. KnownAs start old b (flat_register g r)) (same_Some fact b n) (subst (λ y. DiffersBy start fact.by (old fact.base) y) (held new (Register r) fact.of ec) h)

  sum_made : (dst : Reg) (b want a : Fact) (z : ℕ) → Holds start old new a → KnownAs start old b z → is_sum dst b want a ≡ true → KnownAs start old want ((flat_register g dst + z) % addresses)
  sum_made dst b want a z ha hb e =
      let c = and_parts (is_register dst a.of) (sum_base a.base b.base want.base && is_known (both plus a.by b.by) want.by) e in
      sum_known start old a b want (flat_register g dst) z high refl (subst (λ y. KnownAs start old a y) (held new (Register dst) a.of c.0) ha) hb c.1

  difference_made : (dst : Reg) (b want a : Fact) (z : ℕ) → Holds start old new a → KnownAs start old b z → is_difference dst b want a ≡ true → KnownAs start old want (modulo (pos (flat_register g dst) -ℤ pos z) addresses)
  difference_made dst b want a z ha hb e =
      let c = and_parts (is_register dst a.of) (difference_base a.base b.base want.base && is_known (both minus a.by b.by) want.by) e in
      difference_known start old a b want (flat_register g dst) z high refl (subst (λ y. KnownAs start old a y) (held new (Register dst) a.of c.0) ha) hb c.1

  by_fact : (op : AluOp) (dst : Reg) (src : Operand) (want b : Fact) → KnownAs start old b (flat_operand g src) → made_by facts op dst want b ≡ true → KnownAs start old want (put_value order (Alu op W64 dst src) g)
  by_fact Mov dst src want b hb e = moved_known start old b want (flat_operand g src) high hb e
  by_fact Add dst src want b hb e = let h = any_holds (is_sum dst b want) (Holds start old new) facts e all in sum_made dst b want h.0 (flat_operand g src) h.2 hb h.1
  by_fact Sub dst src want b hb e = let h = any_holds (is_difference dst b want) (Holds start old new) facts e all in difference_made dst b want h.0 (flat_operand g src) h.2 hb h.1
  by_fact op dst src want b hb e = absurd (false≢true e)

  from_known : (op : AluOp) (dst : Reg) (src : Operand) (want : Fact) → made_from facts op dst src want ≡ true → KnownAs start old want (put_value order (Alu op W64 dst src) g)
  from_known op dst src want e = elim (or_cases (option_map_or (made_by facts op dst want) (known_operand src) false) (list_any (by_operand facts op dst src want) facts) e) [
    | inl by_itself ↦ by_known (known_operand src) refl by_itself
    | inr by_other ↦ (let h = any_holds (by_operand facts op dst src want) (Holds start old new) facts by_other all in by_one h.0 h.2 (of_operand src h.0) refl h.1)
  ]
    where
      by_known : (o : Option Fact) → known_operand src ≡ o → option_map_or (made_by facts op dst want) o false ≡ true → KnownAs start old want (put_value order (Alu op W64 dst src) g)
      by_known None eo h = absurd (false≢true h)
      by_known (Some b) eo h = by_fact op dst src want b (known_operand_is src b eo) h

      by_one : (fact : Fact) → Holds start old new fact → (o : Option Fact) → of_operand src fact ≡ o → option_map_or (made_by facts op dst want) o false ≡ true → KnownAs start old want (put_value order (Alu op W64 dst src) g)
      by_one fact hf None eo h = absurd (false≢true h)
      by_one fact hf (Some b) eo h = by_fact op dst src want b (of_operand_is src fact b hf eo) h

  -- what an instruction puts, or stores
  pub made_known : (m : Insn) (want : Fact) → HasEncoding m → made facts m want ≡ true → KnownAs start old want (made_value order m g)
  unfolding made
  made_known (Alu op W64 dst src) want enc e = from_known op dst src want e
  made_known (LoadImm64 dst value) want enc e = elim (or_cases (is_moved (known_number None (constant value)) want) (list_any (λ fact. option_map_or (λ b. is_moved b want) (of_number value fact) false) facts) e) [
    | inl by_itself ↦ moved_known start old (known_number None (constant value)) want value high (constant_known start value enc) by_itself
    | inr by_other ↦ (let h = any_holds (λ fact. option_map_or (λ b. is_moved b want) (of_number value fact) false) (Holds start old new) facts by_other all in by_zero h.0 h.2 (of_number value h.0) refl h.1)
  ]
    where
      by_zero : (fact : Fact) → Holds start old new fact → (o : Option Fact) → of_number value fact ≡ o → option_map_or (λ b. is_moved b want) o false ≡ true → KnownAs start old want value
      by_zero fact hf None eo h = absurd (false≢true h)
      by_zero fact hf (Some b) eo h = moved_known start old b want value high (of_number_is start old new value fact b refl enc hf eo) h
  made_known (Load size dst src off) want enc e = by_slot (slot_at size src off) refl e
    where
      by_slot : (o : Option ℕ) → slot_at size src off ≡ o → option_map_or (λ n. list_any (of_slot n want) facts) o false ≡ true → KnownAs start old want (put_value order (Load size dst src off) g)
      by_slot None eo h = absurd (false≢true h)
      by_slot (Some n) eo h =
          let k = any_holds (of_slot n want) (Holds start old new) facts h all in
          let c = and_parts (is_holder (Slot n) k.0.of) (is_moved k.0 want) k.1 in
          let there = slot_loaded order start n size g src off room end enc (slot_access start n size src off eo) in
          subst (λ y. KnownAs start old want y) (sym there) (moved_known start old k.0 want (new (Some (Slot n))) high (subst (λ y. KnownAs start old k.0 y) (held new (Slot n) k.0.of c.0) k.2) c.1)
  made_known (Store size dst off src) want enc e = from_known Mov src (FromReg src) want e
  made_known (StoreImm size dst off imm) want enc e = from_known Mov R0 (Imm imm) want e
  made_known m want enc e = absurd (false≢true e)

-- ---- what the old program has, where it is known by itself

pub zero_pin : (start n : ℕ) → n < addresses → Differs start (number_pin n) n 0
zero_pin start n small = opposite_differs start (constant n) n (constant_known start n small)

module _ (order : Order) (start : ℕ) (packet : Packet) (facts : Facts) (f g : FlatState) (room : IsRoomy start) (flat : IsFlat f) (end : IsEnd start f.registers) (all : AllHold start (value_in order start packet f) (value_in order start packet g) facts) where
  pub pinned_is : (h : Holder) (t : Term) → pinned facts h ≡ Some t → Differs start t (value_in order start packet f (Some h)) 0
  pinned_is h t e = pinned_differs start (value_in order start packet f) (value_in order start packet g) facts h t all e

-- ---- what holds behind a change

module _ (start : ℕ) (facts : Facts) (high : IsHigh start) where
  nothing_holds : (old new : Values) (want : Fact) → old None ≡ 0 → new None ≡ 0 → gives (known_number None zero_term) want ≡ true → Holds start old new want
  nothing_holds old new want zero zero' e =
      gives_holds start high old new (known_number None zero_term) want e (subst (λ x. Differs start zero_term x (new None)) (sym zero) (subst (λ y. Differs start zero_term 0 y) (sym zero') (same_number start 0 (omega arith))))

  some_holds : (old new : Values) (test : Fact → Bool) (want : Fact) → AllHold start old new facts → list_any (λ have. test have && gives have want) facts ≡ true → (have : Fact) × (test have ≡ true) × (gives have want ≡ true) × Holds start old new have
  some_holds old new test want all e =
      let c = any_holds (λ have. test have && gives have want) (Holds start old new) facts e all in
      let b = and_parts (test c.0) (gives c.0 want) c.1 in
      (c.0, b.0, b.1, c.2)

  pub kept_hold : (old new : Values) (want : Fact) → old None ≡ 0 → new None ≡ 0 → AllHold start old new facts → holds_behind facts Kept want ≡ true → Holds start old new want
  unfolding holds_behind
  kept_hold old new want zero zero' all e = elim (or_cases (gives (known_number None zero_term) want) (list_any (λ have. gives have want) facts) e) [
    | inl nothing ↦ nothing_holds old new want zero zero' nothing
    | inr some ↦ (let c = any_holds (λ have. gives have want) (Holds start old new) facts some all in gives_holds start high old new c.0 want c.1 c.2)
  ]

  -- both put a number
  pub put_hold : (h : Holder) (by pin : Option Term) (old old' new new' : Values) (want : Fact) → old' None ≡ 0 → new' None ≡ 0 → Elsewhere h old old' → Elsewhere h new new' → DiffersBy start by (old' (Some h)) (new' (Some h)) → ((t : Term) → pin ≡ Some t → Differs start t (old' (Some h)) 0) → AllHold start old new facts
      → holds_behind facts (Put (record { of = Some h; base = Some h; by = by }) pin) want ≡ true → Holds start old' new' want
  unfolding holds_behind
  put_hold h by pin old old' new new' want zero zero' p q d pd all e = elim (or_cases (gives (known_number None zero_term) want) (put_gives facts fact pin want) e) [
    | inl nothing ↦ nothing_holds old' new' want zero zero' nothing
    | inr some ↦ elim (or_cases (gives fact want) (option_map_or (pins (Some h) want) pin false || list_any (λ have. stays h have && gives have want) facts) some) [
      | inl here ↦ gives_holds start high old' new' fact want here d
      | inr rest ↦ elim (or_cases (option_map_or (pins (Some h) want) pin false) (list_any (λ have. stays h have && gives have want) facts) rest) [
        | inl one ↦ by_pin pin refl one
        | inr other ↦ (let c = some_holds old new (stays h) want all other in gives_holds start high old' new' c.0 want c.2 (stays_holds start h old old' new new' c.0 p q c.1 c.3))
      ]
    ]
  ]
    where
      by_pin : (o : Option Term) → pin ≡ o → option_map_or (pins (Some h) want) o false ≡ true → Holds start old' new' want
      by_pin None eo one = absurd (false≢true one)
      by_pin (Some t) eo one = gives_holds start high old' new' (record { of = None; base = Some h; by = Some t }) want one (subst (λ y. Differs start t (old' (Some h)) y) (sym zero') (pd t eo))

      fact : Fact
      fact = record { of = Some h; base = Some h; by = by }

  -- the new program alone puts one
  pub made_hold : (h : Holder) (m : Insn) (y : ℕ) (old new new' : Values) (want : Fact) → old None ≡ 0 → new' None ≡ 0 → Elsewhere h new new' → new' (Some h) ≡ y → (made facts m want ≡ true → KnownAs start old want y) → AllHold start old new facts
      → holds_behind facts (Made h m) want ≡ true → Holds start old new' want
  unfolding holds_behind
  made_hold h m y old new new' want zero zero' q here known all e = elim (or_cases (gives (known_number None zero_term) want) (made_gives facts h m want) e) [
    | inl nothing ↦ nothing_holds old new' want zero zero' nothing
    | inr some ↦ elim (or_cases (is_holder h want.of && made facts m want) (list_any (λ have. not (is_holder h have.of) && gives have want) facts) some) [
      | inl this ↦ (let c = and_parts (is_holder h want.of) (made facts m want) this in subst (λ z. DiffersBy start want.by (old want.base) z) (sym here ∙ sym (held new' h want.of c.0)) (known c.1))
      | inr other ↦ (let c = some_holds old new (λ have. not (is_holder h have.of)) want all other in gives_holds start high old new' c.0 want c.2 (other_holds start h old new new' c.0 q c.1 c.3))
    ]
  ]

  -- both store the same
  pub stored_hold : (from to : ℕ) (old old' new new' : Values) (want : Fact) → old' None ≡ 0 → new' None ≡ 0 → ((of : Option Holder) → is_clear from to of ≡ true → old' of ≡ old of) → ((of : Option Holder) → is_clear from to of ≡ true → new' of ≡ new of) → AllHold start old new facts
      → holds_behind facts (Stored from to) want ≡ true → Holds start old' new' want
  unfolding holds_behind
  stored_hold from to old old' new new' want zero zero' p q all e = elim (or_cases (gives (known_number None zero_term) want) (stored_gives facts from to want) e) [
    | inl nothing ↦ nothing_holds old' new' want zero zero' nothing
    | inr some ↦ (let c = some_holds old new (outlives from to) want all some in
        let b = and_parts (is_clear from to c.0.of) (is_clear from to c.0.base) c.1 in
        gives_holds start high old' new' c.0 want c.2 (subst (λ z. DiffersBy start c.0.by z (new' c.0.of)) (sym (p c.0.base b.1)) (subst (λ z. DiffersBy start c.0.by (old c.0.base) z) (sym (q c.0.of b.0)) c.3)))
  ]

  -- and both put what was there into a register
  pub fetched_hold : (from to : ℕ) (r : Reg) (old old' new new' : Values) (want : Fact) → old' None ≡ 0 → new' None ≡ 0 → ((of : Option Holder) → is_clear from to of ≡ true → not (is_holder (Register r) of) ≡ true → old' of ≡ old of) → ((of : Option Holder) → is_clear from to of ≡ true → not (is_holder (Register r) of) ≡ true → new' of ≡ new of)
      → Differs start zero_term (old' (Some (Register r))) (new' (Some (Register r))) → AllHold start old new facts → holds_behind facts (Fetched from to r) want ≡ true → Holds start old' new' want
  unfolding holds_behind
  fetched_hold from to r old old' new new' want zero zero' p q d all e = elim (or_cases (gives (known_number None zero_term) want) (fetched_gives facts from to r want) e) [
    | inl nothing ↦ nothing_holds old' new' want zero zero' nothing
    | inr some ↦ elim (or_cases (gives (by_itself (Register r)) want) (list_any (λ have. (outlives from to have && stays (Register r) have) && gives have want) facts) some) [
      | inl here ↦ gives_holds start high old' new' (by_itself (Register r)) want here d
      | inr rest ↦ (let c = some_holds old new (λ have. outlives from to have && stays (Register r) have) want all rest in
          let b = and_parts (outlives from to c.0) (stays (Register r) c.0) c.1 in
          let o = and_parts (is_clear from to c.0.of) (is_clear from to c.0.base) b.0 in
          let s = and_parts (not (is_holder (Register r) c.0.of)) (not (is_holder (Register r) c.0.base)) b.1 in
          gives_holds start high old' new' c.0 want c.2 (subst (λ z. DiffersBy start c.0.by z (new' c.0.of)) (sym (p c.0.base o.1 s.1)) (subst (λ z. DiffersBy start c.0.by (old c.0.base) z) (sym (q c.0.of o.0 s.0)) c.3)))
    ]
  ]
