-- Loads, stores and atomics lead to states that fit.
use Rattle.std.proofs.Common.{◌≡◌, Option, Some, None, refl, ap, ap₂, sym, subst, length, ◌<◌, ◌≤◌, ◌+◌, ◌*◌, ◌%◌, ◌/◌, ◌^◌, ℕ, arith, ◌∙◌, inl, inr}
use Rattle.std.specs.Prelude.{ℤ, ◌==◌, Bool, get_or, cond, option_map, unwrap_or}
use Rattle.std.proofs.lemmas.Option.{none-some, same_Some, option_and_then_some, cond_some}
use Rattle.std.proofs.lemmas.Bool.{eqb-true, cond_both}
use Rattle.std.specs.Int.{cast_signed}
use Rattle.bpf_insn.specs.Order.{bytes_of, number_of}
use Rattle.bpf_insn.specs.Arithmetic.{modulo, extended}
use Rattle.bpf_insn.specs.Instruction.{byte_count, slot_count, word_size}
use Rattle.bpf_semantics.specs.State.{State, frame_at, depth, frame_bytes, max_frames, register, with_top, number_of_register, HoldsPointer, IsNumberCell}
use Rattle.bpf_semantics.specs.State.Cell.{Part}
use Rattle.bpf_semantics.specs.Memory.{Location, stack_of, location_of, number_at, pointer_at, store_number, store_pointer, pointer_in, with_stack_in, with_bytes, with_parts}
use Rattle.bpf_semantics.specs.Memory.Location.{InContext, InFrame}
use Rattle.bpf_semantics.specs.Flat.{addresses, Placement, FlatState, IsFlat, frame_start, flat_register, flat_put, bytes_from, flat_number, address, flat_does, flat_next, flat_store, flat_fetched}
use Rattle.bpf_semantics.specs.Placement.{Fits, StandsFor, StandsForCell, pointer_address}
use Rattle.bpf_insn.specs.declared.order.Order.{Order}
use Rattle.bpf_insn.specs.declared.instruction.Reg.{Reg}
use Rattle.bpf_insn.specs.declared.instruction.Reg.TheVariants.{R0}
use Rattle.bpf_semantics.specs.declared.value.Value.{Value}
use Rattle.bpf_semantics.specs.declared.value.Value.TheVariants.{Number, Pointer}
use Rattle.bpf_semantics.specs.declared.value.Region.{Region}
use Rattle.bpf_semantics.specs.Step.{does, next, load, load_extended, store, atomic_result, fetched, size_type}
use Rattle.bpf_insn.specs.Effects.{fetch_register}
use Rattle.bpf_insn.specs.declared.instruction.Size.{Size}
use Rattle.bpf_insn.specs.declared.instruction.Size.TheVariants.{B, H, W, DW}
use Rattle.bpf_insn.specs.declared.instruction.AtomicOp.{AtomicOp}
use Rattle.bpf_insn.specs.declared.instruction.AtomicOp.TheVariants.{Modify as Changes, Xchg, CmpXchg}
use Rattle.bpf_insn.specs.declared.instruction.Insn.{Insn}
use Rattle.bpf_insn.specs.declared.instruction.Insn.TheVariants.{Load, LoadSx, Store, StoreImm, Atomic}
use Rattle.bpf_semantics.proofs.FlatBase.{stands, fits_put}
use Rattle.bpf_semantics.proofs.FlatLoad.{place_address, IsAt, place_fits, number_fits}
use Rattle.bpf_semantics.proofs.FlatInsn.{Lands, Given, fits_next, number_stands, registers_eleven}
use Rattle.bpf_semantics.proofs.FlatStore.{fits_stack, byte_cells_fit, part_cells_fit, frame_top}
use Rattle.bpf_semantics.proofs.FlatBytes.{number-bytes, bytes_from_small, bytes_from_are}
use Rattle.bpf_semantics.proofs.NumberLemmas.{modulo_below, bytes_small, length-bytes_of, number_below, size_small}
use Rattle.bpf_semantics.proofs.StateLemmas.{IsGood, option_map_some, frame_is, cond_option, slot_of, part_is_no_number, or_cases_of, state_at, good_next}

pub size_some : (size : Size) → 0 < byte_count size
size_some B = omega arith
size_some H = omega arith
size_some W = omega arith
size_some DW = omega arith

pub flat_number_below : (order : Order) (f : FlatState) (size : Size) (a : ℕ) → IsFlat f → flat_number order f (byte_count size) a < addresses
flat_number_below order f size a flat =
    let h : flat_number order f (byte_count size) a < 256 ^ byte_count size = number_below order (byte_count size) (bytes_from f.memory a (byte_count size)) (bytes_from_small f.memory a (byte_count size) flat.bytes) in
    let k = size_small size in
    omega arith

option_map_number : (order : Order) (place : Placement) (s : State) (f : FlatState) (k : ℕ) (pl : Location) (v : Value) → Given order place s f → IsGood s k pl → option_map Number (number_at order s k pl) ≡ Some v → StandsFor place (flat_number order f k (place_address place pl)) (Some v)
option_map_number order place s f k pl v g good e =
    let h = option_map_some Number (number_at order s k pl) v e in
    subst (λ v. StandsFor place (flat_number order f k (place_address place pl)) (Some v)) h.2 (number_fits g.fit g.placed g.is_state k pl h.0 good h.1)

spilled_bytes : (order : Order) (place : Placement) (s : State) (f : FlatState) (n i : ℕ) (v : Value) → Given order place s f → (n ≤ depth s) → i + 8 ≤ frame_bytes → i % 8 ≡ 0 → HoldsPointer (stack_of s n) (i / 8) → pointer_in (get_or (stack_of s n) i None) ≡ Some v → StandsFor place (flat_number order f 8 (frame_start place n + i)) (Some v)
spilled_bytes order place s f n i v g live room aligned holds e =
    let few = g.is_state.few_frames in
    let n8 : n < max_frames = omega arith in
    let inside = g.placed.frame_inside n n8 in
    let x : ℕ = pointer_address place holds.region holds.offset in
    let here : 8 * (i / 8) + 0 ≡ i = slot_of i aligned in
    let first : get_or (stack_of s n) i None ≡ Some (Part 0 holds.region holds.offset) = subst (λ j. get_or (stack_of s n) j None ≡ Some (Part 0 holds.region holds.offset)) here (holds.parts 0 (omega arith)) in
    let is : Pointer holds.region holds.offset ≡ v = same_Some _ _ (sym (ap pointer_in first) ∙ e) in
    let bytes : bytes_from f.memory (frame_start place n + i) 8 ≡ bytes_of order 8 x =
    bytes_from_are f.memory (frame_start place n + i) 8 (bytes_of order 8 x) (length-bytes_of order 8 x) (omega arith) (λ j hj.
    let at : 8 * (i / 8) + j ≡ i + j = omega arith in
    let cell_is : get_or (stack_of s n) (i + j) None ≡ Some (Part j holds.region holds.offset) = subst (λ k. get_or (stack_of s n) k None ≡ Some (Part j holds.region holds.offset)) at (holds.parts j hj) in
    let a : frame_start place n + i + j ≡ frame_start place n + (i + j) = omega arith in
    ap f.memory a ∙ subst (λ c. StandsForCell order place (f.memory (frame_start place n + (i + j))) c) cell_is (g.fit.cells_fit n (i + j) live (omega arith))) in
    subst (λ v. StandsFor place (flat_number order f 8 (frame_start place n + i)) (Some v)) is (ap (number_of order 8) bytes ∙ number-bytes order x (modulo_below _))

spilled : (order : Order) (place : Placement) (s : State) (f : FlatState) (pl : Location) (v : Value) → Given order place s f → IsGood s 8 pl → pointer_at s pl ≡ Some v → StandsFor place (flat_number order f 8 (place_address place pl)) (Some v)
spilled order place s f (InContext i) v g good e = absurd (none-some _ e)
spilled order place s f (InFrame n i) v g good e =
    let h = cond_option (i % 8 == 0) _ v e in
    let aligned : i % 8 ≡ 0 = eqb-true (i % 8) 0 h.0 in
    let room = good.1 in
    let here : 8 * (i / 8) + 0 ≡ i = slot_of i aligned in
    elim ((frame_is g.is_state n).whole (i / 8) (omega arith)) [
      | inl none ↦ absurd (part_is_no_number (get_or (stack_of s n) i None) v h.1 (subst (λ j. IsNumberCell (get_or (stack_of s n) j None)) here (none 0 (omega arith))))
      | inr holds ↦ spilled_bytes order place s f n i v g good.0 good.1 aligned holds h.1
    ]

load_fits : (order : Order) (place : Placement) (s : State) (f : FlatState) (size : Size) (pl : Location) (v : Value) → Given order place s f → IsGood s (byte_count size) pl → load order s size pl ≡ Some v → StandsFor place (flat_number order f (byte_count size) (place_address place pl)) (Some v)
load_fits order place s f DW pl v g good e = or_cases_of (λ v. StandsFor place (flat_number order f 8 (place_address place pl)) (Some v)) (pointer_at s pl) _ v e (spilled order place s f pl v g good) (option_map_number order place s f 8 pl v g good)
load_fits order place s f size pl v g good e = option_map_number order place s f (byte_count size) pl v g good e

pub load_lands : (order : Order) (place : Placement) (s t : State) (f : FlatState) (size : Size) (dst src : Reg) (off : ℤ) → Given order place s f → does order (Load size dst src off) s ≡ Some t → Lands order place (Load size dst src off) f t
unfolding does flat_does
load_lands order place s t f size dst src off g e =
    option_and_then_some _ (register s src) t e (λ base ebase e1. option_and_then_some _ (location_of s (byte_count size) off base) t e1 (λ pl epl e2. option_and_then_some _ (load order s size pl) t e2 (λ v ev e3.
    let is_at : IsAt place s (byte_count size) off (flat_register f src) pl = place_fits place s (byte_count size) off base (flat_register f src) pl (size_some size) g.placed g.is_state.few_frames (stands g.fit src base ebase) epl in
    record {
      state = flat_put dst (flat_number order f (byte_count size) (address f src off)) (flat_next (Load size dst src off) f);
      does = refl;
      fits = fits_put (fits_next g.fit (Load size dst src off)) (registers_eleven g.is_state) dst _ v t (flat_number_below order f size _ g.fit.flat)
          (subst (λ a. StandsFor place (flat_number order f (byte_count size) a) (Some v)) (sym is_at.address_is) (load_fits order place s f size pl v g is_at.good ev)) e3;
    })))

pub load_sx_lands : (order : Order) (place : Placement) (s t : State) (f : FlatState) (size : Size) (dst src : Reg) (off : ℤ) → Given order place s f → does order (LoadSx size dst src off) s ≡ Some t → Lands order place (LoadSx size dst src off) f t
unfolding does flat_does
load_sx_lands order place s t f size dst src off g e =
    option_and_then_some _ (register s src) t e (λ base ebase e1. option_and_then_some _ (location_of s (byte_count size) off base) t e1 (λ pl epl e2. option_and_then_some _ (load_extended order s size pl) t e2 (λ v ev e3.
    let is_at : IsAt place s (byte_count size) off (flat_register f src) pl = place_fits place s (byte_count size) off base (flat_register f src) pl (size_some size) g.placed g.is_state.few_frames (stands g.fit src base ebase) epl in
    let h = option_map_some (λ x. Number (modulo (cast_signed (size_type size) x) (2 ^ 64))) (number_at order s (byte_count size) pl) v ev in
    let x : flat_number order f (byte_count size) (address f src off) ≡ h.0 = ap (flat_number order f (byte_count size)) is_at.address_is ∙ number_fits g.fit g.placed g.is_state (byte_count size) pl h.0 is_at.good h.1 in
    record {
      state = flat_put dst (modulo (cast_signed (size_type size) (flat_number order f (byte_count size) (address f src off))) addresses) (flat_next (LoadSx size dst src off) f);
      does = refl;
      fits = fits_put (fits_next g.fit (LoadSx size dst src off)) (registers_eleven g.is_state) dst _ v t (modulo_below _)
          (subst (λ v. StandsFor place (modulo (cast_signed (size_type size) (flat_number order f (byte_count size) (address f src off))) addresses) (Some v)) h.2 (ap (λ x. modulo (cast_signed (size_type size) x) addresses) x)) e3;
    })))

pub given_next : {order : Order} {place : Placement} {s : State} {f : FlatState} → Given order place s f → (i : Insn) → Given order place (next i s) (flat_next i f)
given_next {s = s} g i = record { fit = fits_next g.fit i; is_state = state_at g.is_state (s.top.slot + slot_count i); placed = g.placed }

pub store_number_fits : (order : Order) (place : Placement) (s t : State) (f : FlatState) (k x : ℕ) (pl : Location) → Given order place s f → IsGood s k pl → store_number order k x pl s ≡ Some t → Fits order place t (flat_store order k x (place_address place pl) f)
unfolding store_number
store_number_fits order place s t f k x (InContext i) g good e = absurd (none-some _ e)
store_number_fits order place s t f k x (InFrame n i) g good e =
    let few = g.is_state.few_frames in
    let live = good.0 in
    let n8 : n < max_frames = omega arith in
    let len : length (stack_of s n) ≡ frame_bytes = (frame_is g.is_state n).cells in
    let count : length (bytes_of order k x) ≡ k = length-bytes_of order k x in
    let room = good.1 in
    let inside = g.placed.frame_inside n n8 in
    subst (λ t. Fits order place t (flat_store order k x (frame_start place n + i) f)) (same_Some _ _ e)
    (fits_stack g.fit g.is_state g.placed n i (bytes_of order k x) (with_bytes (bytes_of order k x) i (stack_of s n))
    (record {
      live = good.0;
      inside = rw count good.1;
      small = bytes_small order k x;
      cells = λ j hj. byte_cells_fit order place f.memory (bytes_of order k x) (frame_start place n) i (stack_of s n) j (rw len hj) (rw (count, len) good.1) (rw len inside) (g.fit.cells_fit n j good.0 hj);
    }))

pub store_pointer_fits : (order : Order) (place : Placement) (s t : State) (f : FlatState) (region : Region) (off : ℤ) (y : ℕ) (pl : Location) → Given order place s f → IsGood s 8 pl → StandsFor place y (Some (Pointer region off)) → store_pointer region off pl s ≡ Some t → Fits order place t (flat_store order 8 y (place_address place pl) f)
unfolding store_pointer
store_pointer_fits order place s t f region off y (InContext i) g good st e = absurd (none-some _ e)
store_pointer_fits order place s t f region off y (InFrame n i) g good st e =
    let few = g.is_state.few_frames in
    let live = good.0 in
    let n8 : n < max_frames = omega arith in
    let len : length (stack_of s n) ≡ frame_bytes = (frame_is g.is_state n).cells in
    let count : length (bytes_of order 8 y) ≡ 8 = length-bytes_of order 8 y in
    let inside = g.placed.frame_inside n n8 in
    let h = cond_some (i % 8 == 0) _ t e in
    subst (λ t. Fits order place t (flat_store order 8 y (frame_start place n + i) f)) h.1
    (fits_stack g.fit g.is_state g.placed n i (bytes_of order 8 y) (with_parts region off i (stack_of s n))
    (record {
      live = good.0;
      inside = rw count good.1;
      small = bytes_small order 8 y;
      cells = λ j hj. part_cells_fit order place f.memory region off (bytes_of order 8 y) (frame_start place n) i (stack_of s n) j (ap (bytes_of order 8) st) (rw len hj) (rw len good.1) (rw len inside) (g.fit.cells_fit n j good.0 hj);
    }))

store_fits : (order : Order) (place : Placement) (s t : State) (f : FlatState) (size : Size) (v : Value) (y : ℕ) (pl : Location) → Given order place s f → IsGood s (byte_count size) pl → StandsFor place y (Some v) → store order size v pl s ≡ Some t → Fits order place t (flat_store order (byte_count size) y (place_address place pl) f)
store_fits order place s t f size (Number x) y pl g good st e = subst (λ y. Fits order place t (flat_store order (byte_count size) y (place_address place pl) f)) (sym st) (store_number_fits order place s t f (byte_count size) x pl g good e)
store_fits order place s t f DW (Pointer region off) y pl g good st e = store_pointer_fits order place s t f region off y pl g good st e
store_fits order place s t f size (Pointer region off) y pl g good st e = absurd (none-some _ e)

pub store_lands : (order : Order) (place : Placement) (s t : State) (f : FlatState) (size : Size) (dst : Reg) (off : ℤ) (src : Reg) → Given order place s f → does order (Store size dst off src) s ≡ Some t → Lands order place (Store size dst off src) f t
unfolding does flat_does
store_lands order place s t f size dst off src g e =
    option_and_then_some _ (register s dst) t e (λ base ebase e1. option_and_then_some _ (register s src) t e1 (λ v ev e2. option_and_then_some _ (location_of s (byte_count size) off base) t e2 (λ pl epl e3.
    let is_at : IsAt place s (byte_count size) off (flat_register f dst) pl = place_fits place s (byte_count size) off base (flat_register f dst) pl (size_some size) g.placed g.is_state.few_frames (stands g.fit dst base ebase) epl in
    let i : Insn = Store size dst off src in
    record {
      state = flat_store order (byte_count size) (flat_register f src) (address f dst off) (flat_next i f);
      does = refl;
      fits = subst (λ a. Fits order place t (flat_store order (byte_count size) (flat_register f src) a (flat_next i f))) (sym is_at.address_is)
          (store_fits order place (next i s) t (flat_next i f) size v (flat_register f src) pl (given_next g i) (good_next s i (byte_count size) pl is_at.good) (stands g.fit src v ev) e3);
    })))

pub store_imm_lands : (order : Order) (place : Placement) (s t : State) (f : FlatState) (size : Size) (dst : Reg) (off imm : ℤ) → Given order place s f → does order (StoreImm size dst off imm) s ≡ Some t → Lands order place (StoreImm size dst off imm) f t
unfolding does flat_does
store_imm_lands order place s t f size dst off imm g e =
    option_and_then_some _ (register s dst) t e (λ base ebase e1. option_and_then_some _ (location_of s (byte_count size) off base) t e1 (λ pl epl e3.
    let is_at : IsAt place s (byte_count size) off (flat_register f dst) pl = place_fits place s (byte_count size) off base (flat_register f dst) pl (size_some size) g.placed g.is_state.few_frames (stands g.fit dst base ebase) epl in
    let i : Insn = StoreImm size dst off imm in
    record {
      state = flat_store order (byte_count size) (extended imm) (address f dst off) (flat_next i f);
      does = refl;
      fits = subst (λ a. Fits order place t (flat_store order (byte_count size) (extended imm) a (flat_next i f))) (sym is_at.address_is)
          (store_fits order place (next i s) t (flat_next i f) size (Number (extended imm)) (extended imm) pl (given_next g i) (good_next s i (byte_count size) pl is_at.good) refl e3);
    }))

-- ---- atomics

result_same : (op : AtomicOp) (size : Size) (old x new : ℕ) (r0 : Option ℕ) (y : ℕ) → atomic_result op size old x r0 ≡ Some new → ((n : ℕ) → r0 ≡ Some n → y ≡ n) → unwrap_or (atomic_result op size old x (Some y)) old ≡ new
result_same (Changes by fetch) size old x new r0 y e h = same_Some _ _ e
result_same Xchg size old x new r0 y e h = same_Some _ _ e
result_same CmpXchg size old x new None y e h = absurd (none-some _ e)
result_same CmpXchg size old x new (Some n) y e h = ap (λ z. cond (old == z % 256 ^ byte_count size) x old) (h n refl) ∙ same_Some _ _ e

stored_registers : (order : Order) (s t : State) (k x : ℕ) (pl : Location) → store_number order k x pl s ≡ Some t → t.top.registers ≡ s.top.registers
unfolding store_number
stored_registers order s t k x (InContext i) e = absurd (none-some _ e)
stored_registers order s t k x (InFrame n i) e = subst (λ t. t.top.registers ≡ s.top.registers) (same_Some _ _ e)
    (cond_both (n == depth s) (with_top s (with_stack_in (frame_at s n) (with_bytes (bytes_of order k x) i (stack_of s n)))) _ (λ t. t.top.registers ≡ s.top.registers)
    (λ h. ap (λ fr. fr.registers) (frame_top s n (eqb-true n (depth s) h))) (λ h. refl))

fetched_fits : (order : Order) (place : Placement) (after t : State) (f : FlatState) (o : Option Reg) (old y : ℕ) → Fits order place after f → length after.top.registers ≡ 11 → y ≡ old → y < addresses → fetched o old after ≡ Some t → Fits order place t (flat_fetched o y f)
fetched_fits order place after t f None old y fit l same hy e = subst (λ t. Fits order place t f) (same_Some _ _ e) fit
fetched_fits order place after t f (Some r) old y fit l same hy e = fits_put fit l r y (Number old) t hy same e

pub atomic_lands : (order : Order) (place : Placement) (s t : State) (f : FlatState) (wide : Bool) (op : AtomicOp) (dst : Reg) (off : ℤ) (src : Reg) → Given order place s f → does order (Atomic wide op dst off src) s ≡ Some t → Lands order place (Atomic wide op dst off src) f t
unfolding does flat_does
atomic_lands order place s t f wide op dst off src g e =
    let size : Size = word_size wide in
    let k : ℕ = byte_count size in
    let i : Insn = Atomic wide op dst off src in
    option_and_then_some _ (register s dst) t e (λ base ebase e1. option_and_then_some _ (number_of_register s src) t e1 (λ x ex e2. option_and_then_some _ (location_of s k off base) t e2 (λ pl epl e3. option_and_then_some _ (number_at order s k pl) t e3 (λ old eold e4. option_and_then_some _ (atomic_result op size old x (number_of_register s R0)) t e4 (λ new enew e5. option_and_then_some _ (store_number order k new pl (next i s)) t e5 (λ after eafter e6.
    let is_at : IsAt place s k off (flat_register f dst) pl = place_fits place s k off base (flat_register f dst) pl (size_some size) g.placed g.is_state.few_frames (stands g.fit dst base ebase) epl in
    let a : ℕ = address f dst off in
    let y : ℕ = flat_number order f k a in
    let same : y ≡ old = ap (flat_number order f k) is_at.address_is ∙ number_fits g.fit g.placed g.is_state k pl old is_at.good eold in
    let z : ℕ = unwrap_or (atomic_result op size y (flat_register f src) (Some (flat_register f R0))) y in
    let sx : flat_register f src ≡ x = number_stands g.fit src x ex in
    let sz : z ≡ new = ap₂ (λ y x. unwrap_or (atomic_result op size y x (Some (flat_register f R0))) y) same sx ∙ result_same op size old x new (number_of_register s R0) (flat_register f R0) enew (λ n en. number_stands g.fit R0 n en) in
    let fit : Fits order place after (flat_store order k z a (flat_next i f)) =
    subst (λ a. Fits order place after (flat_store order k z a (flat_next i f))) (sym is_at.address_is)
    (subst (λ z. Fits order place after (flat_store order k z (place_address place pl) (flat_next i f))) (sym sz) (store_number_fits order place (next i s) after (flat_next i f) k new pl (given_next g i) (good_next s i k pl is_at.good) eafter)) in
    record {
      state = flat_fetched (fetch_register op src) y (flat_store order k z a (flat_next i f));
      does = refl;
      fits = fetched_fits order place after t (flat_store order k z a (flat_next i f)) (fetch_register op src) old y fit (ap length (stored_registers order (next i s) after k new pl eafter) ∙ registers_eleven g.is_state) same (flat_number_below order f size a g.fit.flat) e6;
    }))))))
