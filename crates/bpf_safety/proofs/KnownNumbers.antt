-- What is known of a number that an access reads.
use Rattle.std.proofs.Common.{List, ◌≡◌, ℕ, ◌+◌, ◌-◌, ◌*◌, ◌^◌, ◌<◌, ◌≤◌, refl, sym, ◌∙◌, ap, subst, arith, get_or, Option, Some, None, Bool, true, false, cond}
use Rattle.std.specs.Prelude.{slice_index, ◌&&◌, option_map}
use Rattle.std.specs.Cmp.Derive.{both_true}
use Rattle.std.proofs.lemmas.Bool.{false≢true}
use Rattle.byteorder.specs.Numbers.{big_from-lt, little_from-lt}
use Rattle.bpf_insn.specs.declared.order.Order.{Order}
use Rattle.bpf_insn.specs.declared.order.Order.TheVariants.{Little, Big}
use Rattle.bpf_semantics.specs.declared.value.Value.TheVariants.{Number as NumberValue}
use Rattle.bpf_insn.specs.declared.instruction.Size.{Size}
use Rattle.bpf_insn.specs.declared.instruction.Size.TheVariants.{B, H, W, DW}
use Rattle.bpf_insn.specs.Instruction.{byte_count}
use Rattle.bpf_insn.specs.Order.{number_of}
use Rattle.bpf_insn.specs.Effects.{Access}
use Rattle.bpf_semantics.specs.State as machine
use Rattle.bpf_semantics.specs.State.{Cell}
use Rattle.bpf_num.specs.Laws.{Holds, TightenKeeps}
use Rattle.bpf_num.specs.Number.{IsNumber, Has, number}
use Rattle.bpf_num.specs.Tristate.{bits_top}
use Rattle.bpf_num.specs.Interval.{interval, IsInterval}
use Rattle.bpf_num.specs.SignedInterval.{signed_top}
use Rattle.bpf_state.specs.declared.known.RegState.{RegState}
use Rattle.bpf_state.specs.declared.known.RegState.TheVariants.{Num}
use Rattle.bpf_state.specs.declared.known.SlotState.{SlotState}
use Rattle.bpf_state.specs.declared.known.SlotState.TheVariants.{Bytes, Word, Spilled}
use Rattle.bpf_state.specs.declared.known.Tag.{Tag}
use Rattle.bpf_state.specs.State.{slot_value, AbstractState, slot, slot_tag, IsAbstract, IsAbstractRegister, IsAbstractSlot}
use Rattle.bpf_state.specs.Access.{Span, is_slot, slot_number, is_pointer_slot, touches}
use Rattle.bpf_state.specs.Transfer.{loaded, loaded_tag, any_number}
use Rattle.bpf_safety.specs.Describes.{Describes, DescribesRegister, DescribesSlot, TaggedRegister, TaggedSlot, IsStored, IsTagged}
use Rattle.bpf_safety.proofs.ReadCells.{ReadBytes, is_touched, stored_once}
use Rattle.bpf_safety.proofs.FrameStores.{InTop}
use Rattle.bpf_safety.proofs.NumberStores.{WholeSlot, whole_slot_is, is_number_top}
use Rattle.bpf_safety.proofs.ByteStores.{cells_of}
use Rattle.bpf_safety.proofs.WrittenSlots.{has_top}
use Rattle.bpf_safety.proofs.Tests.{and_second}

-- ---- numbers of a size

pub number_fits : (order : Order) (n : ℕ) (bytes : List ℕ) → ((i : ℕ) → slice_index bytes i < 256) → number_of order n bytes < 256 ^ n
number_fits Little n bytes fit = little_from-lt 0 n bytes fit
number_fits Big n bytes fit = big_from-lt 0 n bytes fit

any_number_holds : TightenKeeps → (size : Size) (y : ℕ) → y < 256 ^ byte_count size → Holds (any_number (byte_count size)) y
any_number_holds tightens size y small = tightens (number bits_top (interval 0 (2 ^ (8 * byte_count size) - 1)) signed_top) y (valid size, has size y small)
  where
    valid : (size : Size) → IsNumber (number bits_top (interval 0 (2 ^ (8 * byte_count size) - 1)) signed_top)
    valid size = record { bits = is_number_top.bits; unsigned = fits size; signed = is_number_top.signed }
      where
        fits : (size : Size) → IsInterval (interval 0 (2 ^ (8 * byte_count size) - 1))
        fits B = record { ordered = omega arith; fits = omega arith }
        fits H = record { ordered = omega arith; fits = omega arith }
        fits W = record { ordered = omega arith; fits = omega arith }
        fits DW = record { ordered = omega arith; fits = omega arith }

    has : (size : Size) (y : ℕ) → y < 256 ^ byte_count size → Has (number bits_top (interval 0 (2 ^ (8 * byte_count size) - 1)) signed_top) y
    has B y h = let t = has_top y (omega arith) in record { bits = t.bits; unsigned = record { above = omega arith; below = omega arith }; signed = t.signed }
    has H y h = let t = has_top y (omega arith) in record { bits = t.bits; unsigned = record { above = omega arith; below = omega arith }; signed = t.signed }
    has W y h = let t = has_top y (omega arith) in record { bits = t.bits; unsigned = record { above = omega arith; below = omega arith }; signed = t.signed }
    has DW y h = let t = has_top y (omega arith) in record { bits = t.bits; unsigned = record { above = omega arith; below = omega arith }; signed = t.signed }

-- ---- what is known of the number y that an access with a span reads

pub record Known (x : List ℕ) (s : AbstractState) (m : machine.State) (p : Span) (size : Size) (y : ℕ) : Type 0 where
  pub state : RegState
  pub is_there : loaded s (Some p) size ≡ Some state
  pub describes : DescribesRegister (machine.depth m) state (Some (NumberValue y))
  pub tagged : TaggedRegister x (loaded_tag s (Some p)) (Some (NumberValue y))
  pub valid : IsAbstractRegister state

-- no whole slot of the frame: any number of the size
pub part_known : TightenKeeps → (x : List ℕ) (s : AbstractState) (m : machine.State) (p : Span) (size : Size) (y : ℕ) → (p.in_frame && is_slot p) ≡ false → y < 256 ^ byte_count size → Known x s m p size y
part_known tightens x s m p size y part small =
    let h = any_number_holds tightens size y small in
    record {
      state = Num h.set;
      is_there = ap (λ b. cond b (Some (slot_value (slot s (slot_number p)))) (option_map Num (any_number (byte_count size)))) part ∙ ap (λ o. option_map Num o) h.is_there;
      describes = (y, refl, h.has);
      tagged = subst (λ tag. TaggedRegister x tag (Some (NumberValue y))) (sym (ap (λ b. cond b (slot_tag s (slot_number p)) None) part)) tt;
      valid = h.valid;
    }

whole_value : (order : Order) (depth y : ℕ) (held : SlotState) (cell : ℕ → Option Cell) → IsStored order y cell → is_pointer_slot held ≡ false → DescribesSlot order depth held cell → DescribesRegister depth (slot_value held) (Some (NumberValue y))
whole_value order depth y (Bytes mask) cell st plain d = tt
whole_value order depth y (Word n) cell st plain d = (y, refl, subst (λ z. Has n z) (stored_once order d.0 y cell d.1 st) d.2)
whole_value order depth y (Spilled q) cell st plain d = absurd (false≢true (sym plain))

whole_tag : (order : Order) (x : List ℕ) (y : ℕ) (tag : Option Tag) (cell : ℕ → Option Cell) → IsStored order y cell → TaggedSlot order x tag cell → TaggedRegister x tag (Some (NumberValue y))
whole_tag order x y None cell st d = tt
whole_tag order x y (Some t) cell st d = (y, refl, subst (λ z. IsTagged x t z) (stored_once order d.0 y cell d.1 st) d.2)

pub slot_value_valid : (held : SlotState) → IsAbstractSlot held → IsAbstractRegister (slot_value held)
slot_value_valid (Bytes mask) ok = tt
slot_value_valid (Word n) ok = ok
slot_value_valid (Spilled p) ok = ok

module _ (tightens : TightenKeeps) (order : Order) (least most : ℕ) (x : List ℕ) (s : AbstractState) (m : machine.State) (a : Access) (value : RegState) (valid : IsAbstract s) (d : Describes order least most x s m) (t : InTop m a value) (r : ReadBytes (byte_count a.size) t.first m.top.stack) where
  -- a whole slot of bytes
  word_known : is_slot t.span ≡ true → is_pointer_slot (slot s (slot_number t.span)) ≡ false → Known x s m t.span a.size (number_of order (byte_count a.size) r.bytes)
  word_known whole plain =
      let w = whole_slot_is t.span t.first t.lies whole in
      let k0 : ℕ = slot_number t.span in
      let y : ℕ = number_of order (byte_count a.size) r.bytes in
      let eight : byte_count a.size ≡ 8 = sym t.count ∙ w.count in
      let at = w.at in
      let st : IsStored order y (cells_of m.top.stack k0) = (r.bytes, r.count ∙ eight, λ i lt. ap (λ n. get_or m.top.stack (n + i) None) (sym at) ∙ r.at i (omega arith), ap (λ n. number_of order n r.bytes) eight) in
      let on = both_true t.lies.in_frame whole in
      record {
        state = slot_value (slot s k0);
        is_there = ap (λ b. cond b (Some (slot_value (slot s k0))) (option_map Num (any_number (byte_count a.size)))) on;
        describes = whole_value order (machine.depth m) y (slot s k0) (cells_of m.top.stack k0) st plain (d.slots k0 w.low w.high);
        tagged = subst (λ tag. TaggedRegister x tag (Some (NumberValue y))) (sym (ap (λ b. cond b (slot_tag s k0) None) on))
            (whole_tag order x y (slot_tag s k0) (cells_of m.top.stack k0) st (d.slot_tags k0 w.low w.high));
        valid = slot_value_valid (slot s k0) (valid.slots k0 w.low w.high);
      }

  -- bytes of the frame, none of a pointer
  pub frame_known : ((k : ℕ) → 1 ≤ k → k ≤ 64 → touches t.span k ≡ true → is_pointer_slot (slot s k) ≡ false) → Known x s m t.span a.size (number_of order (byte_count a.size) r.bytes)
  frame_known plain = by_test (is_slot t.span) refl
    where
      slot_touched : WholeSlot t.span t.first → touches t.span (slot_number t.span) ≡ true
      slot_touched w =
          let low = w.low in
          let high = w.high in
          let at = w.at in
          let n = w.count in
          is_touched t.span t.first (slot_number t.span) 0 t.lies low high (omega arith) (omega arith) (omega arith)

      by_test : (b : Bool) → is_slot t.span ≡ b → Known x s m t.span a.size (number_of order (byte_count a.size) r.bytes)
      by_test true whole =
          let w = whole_slot_is t.span t.first t.lies whole in
          word_known whole (plain (slot_number t.span) w.low w.high (slot_touched w))
      by_test false part = part_known tightens x s m t.span a.size (number_of order (byte_count a.size) r.bytes) (and_second t.span.in_frame (is_slot t.span) part) (number_fits order (byte_count a.size) r.bytes r.fit)
