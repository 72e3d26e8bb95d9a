-- A state that entails another: what the first describes, the second describes.
use Rattle.std.proofs.Common.{◌≡◌, ℕ, ℤ, ◌≤ℤ◌, ◌-◌, ◌<◌, sym, ◌∙◌, ap, subst, arith, Option, Some, true}
use Rattle.std.specs.Prelude.{◌==◌, int_le, bit_and, slice_index}
use Rattle.std.specs.Int.{bit_at}
use Rattle.std.proofs.lemmas.Int.{ints}
use Rattle.std.proofs.lemmas.Bool.{false≢true, and_parts, eqb-true}
use Rattle.std.proofs.lemmas.Nat.Bits.{bit_at_and, bit_at-lt, bit_at-zero}
use Rattle.bpf_insn.specs.declared.order.Order.{Order}
use Rattle.bpf_semantics.specs.declared.value.Value.{Value}
use Rattle.bpf_semantics.specs.declared.value.Value.TheVariants.{Pointer as PointerValue}
use Rattle.bpf_insn.specs.Instruction.{register_number}
use Rattle.bpf_insn.proofs.RegisterLemmas.{reg_below}
use Rattle.bpf_semantics.specs.State as machine
use Rattle.bpf_semantics.specs.State.{Cell}
use Rattle.bpf_semantics.specs.State.Cell.{Part}
use Rattle.bpf_num.specs.Laws.{EntailsIncludes}
use Rattle.bpf_state.specs.declared.known.RegState.{RegState}
use Rattle.bpf_state.specs.declared.known.RegState.TheVariants.{Any, Num, Ptr}
use Rattle.bpf_state.specs.declared.known.Pointer.{Pointer}
use Rattle.bpf_state.specs.declared.known.SlotState.{SlotState}
use Rattle.bpf_state.specs.declared.known.SlotState.TheVariants.{Bytes, Word, Spilled}
use Rattle.bpf_state.specs.State.{register, slot, same_area, IsAbstractRegister, IsAbstractSlot}
use Rattle.bpf_state.specs.Entails.{pointer_entails, register_entails, slot_entails, all_pairs}
use Rattle.bpf_safety.specs.Describes.{DescribesRegister, DescribesSlot, slot_cell, region_of}
use Rattle.bpf_safety.specs.Laws.{EntailsDescribes}
use Rattle.bpf_safety.proofs.Areas.{area_is}
use Rattle.bpf_safety.proofs.Lists.{pair_passes}
use Rattle.bpf_safety.proofs.Tests.{and3_true}

-- a pointer into the same, with bounds that lie in others
wider : (p q : Pointer) (z : ℤ) → pointer_entails p q ≡ true → p.lo ≤ℤ z → z ≤ℤ p.hi → (p.area ≡ q.area) × (q.lo ≤ℤ z) × (z ≤ℤ q.hi)
wider p q z h l u =
    let t = and3_true (same_area p.area q.area) (int_le q.lo p.lo) (int_le p.hi q.hi) h in
    let l' = t.1 in
    let u' = t.2 in
    (area_is p.area q.area t.0, omega (arith, ints), omega (arith, ints))

register_included : EntailsIncludes → (depth : ℕ) (a b : RegState) (v : Option Value) → IsAbstractRegister b → register_entails a b ≡ true → DescribesRegister depth a v → DescribesRegister depth b v
register_included law depth a Any v ok h d = tt
register_included law depth (Num a) (Num b) v ok h d = (d.0, d.1, law a b d.0 ok h d.2)
register_included law depth (Ptr p) (Ptr q) v ok h d =
    let w = wider p q d.0 h d.2 d.3 in
    (d.0, subst (λ area. v ≡ Some (PointerValue (region_of depth area) d.0)) w.0 d.1, w.1, w.2)
register_included law depth a b v ok h d = absurd (false≢true h)

-- a bit of a part of a mask is one of the mask
bit_of_part : (m n i : ℕ) → (bit_and m n == n) ≡ true → bit_at n i ≡ 1 → bit_at m i ≡ 1
bit_of_part m n i h set =
    let e : bit_at (bit_and m n) i ≡ bit_at n i = ap (λ v. bit_at v i) (eqb-true (bit_and m n) n h) in
    let f = bit_at_and m n i in
    let lt = bit_at-lt m i in
    omega arith

slot_included : EntailsIncludes → (order : Order) (depth : ℕ) (a b : SlotState) (cell : ℕ → Option Cell) → IsAbstractSlot b → slot_entails a b ≡ true → DescribesSlot order depth a cell → DescribesSlot order depth b cell
slot_included law order depth (Bytes m) (Bytes n) cell ok h d = λ i lt set. d i lt (bit_of_part m n i h set)
slot_included law order depth (Word a) (Bytes n) cell ok h d = λ i lt set. (slice_index d.1.0 i, d.1.2 i lt)
slot_included law order depth (Spilled p) (Bytes n) cell ok h d = λ i lt set. absurd (omega (arith, sym (ap (λ v. bit_at v i) (eqb-true n 0 h) ∙ bit_at-zero i) ∙ set))
slot_included law order depth (Word a) (Word b) cell ok h d = (d.0, d.1, law a b d.0 ok h d.2)
slot_included law order depth (Spilled p) (Spilled q) cell ok h d =
    let w = wider p q d.0 h d.2 d.3 in
    (d.0, subst (λ area. (i : ℕ) → i < 8 → cell i ≡ Some (Part i (region_of depth area) d.0)) w.0 d.1, w.1, w.2)
slot_included law order depth (Bytes m) (Word b) cell ok h d = absurd (false≢true h)
slot_included law order depth (Bytes m) (Spilled q) cell ok h d = absurd (false≢true h)
slot_included law order depth (Word a) (Spilled q) cell ok h d = absurd (false≢true h)
slot_included law order depth (Spilled p) (Word b) cell ok h d = absurd (false≢true h)

pub entails_describes : EntailsIncludes → EntailsDescribes
entails_describes law order least most x s t m ok ok' test d =
    let h = and_parts (all_pairs register_entails s.registers t.registers) (all_pairs slot_entails s.slots t.slots) test in
    let eleven = ok.eleven in
    let eleven' = ok'.eleven in
    let all = ok.slots_are in
    let all' = ok'.slots_are in
    record {
      length_within = d.length_within;
      registers = λ r.
          let lt = reg_below r in
          register_included law (machine.depth m) (register s r) (register t r) (machine.register m r) (ok'.registers r) (pair_passes register_entails s.registers t.registers (register_number r) Any Any h.0 (omega arith) (omega arith)) (d.registers r);
      slots = λ k low high. slot_included law order (machine.depth m) (slot s k) (slot t k) (slot_cell m k) (ok'.slots k low high) (pair_passes slot_entails s.slots t.slots (k - 1) (Bytes 0) (Bytes 0) h.1 (omega arith) (omega arith)) (d.slots k low high);
      register_tags = d.register_tags;
      slot_tags = d.slot_tags;
    }
