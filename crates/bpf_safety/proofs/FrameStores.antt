-- An access to the top frame: its base and its place. Stores of a constant.
use Rattle.std.proofs.Common.{◌≡◌, ℕ, ℤ, pos, ◌+ℤ◌, ◌+◌, ◌≤◌, refl, sym, ◌∙◌, ap, subst, arith, List, get_or, Option, Some, None, Bool, true, false, cond}
use Rattle.std.specs.Prelude.{◌&&◌, not, nat_le, int_le, neg_ℤ, option_map, unsigned_abs}
use Rattle.std.proofs.lemmas.Int.{ints, clamps}
use Rattle.std.proofs.lemmas.Bool.{false≢true, or_parts, not-false, and_parts, eq-eqb}
use Rattle.std.proofs.lemmas.Bool.Decides.{nat_tests}
use Rattle.std.proofs.Math.Nat.{sub_self}
use Rattle.std.proofs.lemmas.Option.{same_Some}
use Rattle.bpf_insn.specs.declared.order.Order.{Order}
use Rattle.bpf_semantics.specs.declared.value.Value.TheVariants.{Number as NumberValue, Pointer as PointerValue}
use Rattle.bpf_semantics.specs.declared.value.Region.TheVariants.{Frame as FrameAt}
use Rattle.bpf_insn.specs.declared.instruction.Reg.{Reg}
use Rattle.bpf_insn.specs.declared.instruction.Size.{Size}
use Rattle.bpf_insn.specs.declared.instruction.Size.TheVariants.{B, H, W, DW}
use Rattle.bpf_insn.specs.declared.instruction.Insn.TheVariants.{Store, StoreImm}
use Rattle.bpf_insn.specs.Instruction.{Instructions, byte_count}
use Rattle.bpf_insn.specs.Arithmetic.{extended}
use Rattle.bpf_semantics.specs.Step.{Step, does}
use Rattle.bpf_semantics.specs.Stuck.{reason_at}
use Rattle.bpf_insn.specs.Effects.{Access}
use Rattle.bpf_insn.specs.Order.{bytes_of}
use Rattle.bpf_semantics.specs.State as machine
use Rattle.bpf_semantics.specs.State.{Cell}
use Rattle.bpf_semantics.specs.Memory.{with_bytes, store_number, location_of, stack_of, with_stack, inside}
use Rattle.bpf_semantics.specs.Memory.Location.{InFrame}
use Rattle.bpf_num.specs.Number.{constant}
use Rattle.bpf_num.specs.Laws.{ConstantHas}
use Rattle.bpf_state.specs.declared.known.RegState.{RegState}
use Rattle.bpf_state.specs.declared.known.RegState.TheVariants.{Any, Num, Ptr}
use Rattle.bpf_state.specs.Access.{span_from, is_inside, Span}
use Rattle.bpf_state.specs.Fault.{some_passes, is_pointer}
use Rattle.bpf_state.specs.Transfer.{after, stored}
use Rattle.bpf_state.specs.State.{AbstractState, register}
use Rattle.bpf_safety.specs.Describes.{DescribesRegister, PointsInto}
use Rattle.bpf_safety.specs.Laws.{Leads, IsJudged}
use Rattle.bpf_safety.proofs.Areas.{frame_pointer, by_area}
use Rattle.bpf_safety.proofs.TouchedCells.{LiesAt}
use Rattle.bpf_safety.proofs.NumberStores.{at_top, number_stored}
use Rattle.bpf_safety.proofs.Judged.{no_fault_is, step_is, leads_at, top_frame}
use Rattle.bpf_safety.proofs.Constants.{extended_fits, constant_describes}
use Rattle.bpf_safety.proofs.Tests.{leb_self}

-- ---- the base of an access to the frame

abbrev pub store_access : Size → Reg → ℤ → Access
store_access size dst off = record { base = dst; offset = off; size = size; reads = false; writes = true }

pub inside_of : (k len : ℕ) (z : ℤ) (c : ℕ) → z ≡ pos c → c + k ≤ len → inside k len z ≡ Some c
inside_of k len z c e fits =
    let t : nat_le (c + k) len ≡ true = grind (arith, nat_tests) in
    ap (λ z. inside k len z) e ∙ ap (λ b. cond b (Some c) None) t

-- the base of an access points into the top frame, and its bytes lie there, the first in cell `first`
pub record InTop (m : machine.State) (a : Access) (value : RegState) : Type 0 where
  pub span : Span
  pub span_is : span_from a value ≡ Some span
  pub offset : ℤ
  pub base : machine.register m a.base ≡ Some (PointerValue (FrameAt (machine.depth m)) offset)
  pub first : ℕ
  pub place : location_of m (byte_count a.size) a.offset (PointerValue (FrameAt (machine.depth m)) offset) ≡ Some (InFrame (machine.depth m) first)
  pub at : (offset +ℤ a.offset) +ℤ pos 512 ≡ pos first
  pub count : span.count ≡ byte_count a.size
  pub lies : LiesAt span first

frame_top : (m : machine.State) (least : ℕ) (a : Access) (lo hi : ℤ) → some_passes (λ p. not (is_inside least p)) (span_from a (frame_pointer lo hi)) ≡ false → PointsInto (FrameAt (machine.depth m)) lo hi (machine.register m a.base) → InTop m a (frame_pointer lo hi)
frame_top m least a lo hi q d =
    let z : ℤ = (d.0 +ℤ a.offset) +ℤ pos 512 in
    let low : Bool = int_le (neg_ℤ (pos 512)) (lo +ℤ a.offset) in
    let high : Bool = int_le ((hi +ℤ a.offset) +ℤ pos (byte_count a.size)) (pos 0) in
    let t = and_parts low high (not-false (low && high) q) in
    let l = d.2 in
    let u = d.3 in
    let b = t.0 in
    let e = t.1 in
    let c : ℕ = unsigned_abs z in
    let is : z ≡ pos c = omega (arith, ints, clamps) in
    let room : c + byte_count a.size ≤ 512 = omega (arith, ints, clamps) in
    record {
      span = record { in_frame = true; lowest = lo +ℤ a.offset; highest = hi +ℤ a.offset; count = byte_count a.size };
      span_is = refl;
      offset = d.0;
      base = d.1;
      first = c;
      place = rw (leb_self (machine.depth m)) (ap (λ o. option_map (λ x. InFrame (machine.depth m) x) o) (inside_of (byte_count a.size) 512 z c is room));
      at = is;
      count = refl;
      lies = record { in_frame = refl; lowest = omega (arith, ints); highest = omega (arith, ints); fits = room };
    }

pub in_top : (m : machine.State) (least : ℕ) (a : Access) (value : RegState) → is_pointer value ≡ true → some_passes (λ p. not p.in_frame) (span_from a value) ≡ false → some_passes (λ p. not (is_inside least p)) (span_from a value) ≡ false → DescribesRegister (machine.depth m) value (machine.register m a.base) → InTop m a value
in_top m least a Any h p q d = absurd (false≢true h)
in_top m least a (Num n) h p q d = absurd (false≢true h)
in_top m least a (Ptr p) h out q d =
    by_area (λ value. some_passes (λ p. not p.in_frame) (span_from a value) ≡ false → some_passes (λ p. not (is_inside least p)) (span_from a value) ≡ false → DescribesRegister (machine.depth m) value (machine.register m a.base) → InTop m a value)
    (λ lo hi out q d. absurd (false≢true (sym out))) (λ lo hi out q d. frame_top m least a lo hi q d) p out q d

-- ---- what a store does

pub stack_top : (sl : ℕ) (m : machine.State) → stack_of (machine.at_slot sl m) (machine.depth m) ≡ m.top.stack
stack_top sl m = ap (λ n. (get_or (machine.frames (machine.at_slot sl m)) n (machine.at_slot sl m).top).stack) (sub_self (machine.depth m))

pub with_top_stack : (sl : ℕ) (m : machine.State) (stack : List (Option Cell)) → with_stack (machine.at_slot sl m) (machine.depth m) stack ≡ at_top m sl stack
with_top_stack sl m stack = rw (sub_self (machine.depth m), eq-eqb (machine.depth m) (machine.depth m) refl)

pub store_top : (order : Order) (k y c sl : ℕ) (m : machine.State) → store_number order k y (InFrame (machine.depth m) c) (machine.at_slot sl m) ≡ Some (at_top m sl (with_bytes (bytes_of order k y) c m.top.stack))
unfolding store_number
store_top order k y c sl m = ap (λ st. Some (with_stack (machine.at_slot sl m) (machine.depth m) (with_bytes (bytes_of order k y) c st))) (stack_top sl m) ∙ ap (λ t. Some t) (with_top_stack sl m (with_bytes (bytes_of order k y) c m.top.stack))

does_store_imm : (order : Order) (size : Size) (dst : Reg) (off imm : ℤ) (m : machine.State) (value : RegState) (t : InTop m (store_access size dst off) value) → does order (StoreImm size dst off imm) m ≡ Some (at_top m (m.top.slot + 1) (with_bytes (bytes_of order (byte_count size) (extended imm)) t.first m.top.stack))
unfolding does
does_store_imm order size dst off imm m value t = rw (t.base, t.place) (store_top order (byte_count size) (extended imm) t.first (m.top.slot + 1) m)

pub does_store_number : (order : Order) (size : Size) (dst src : Reg) (off : ℤ) (y : ℕ) (m : machine.State) (value : RegState) (t : InTop m (store_access size dst off) value) → machine.register m src ≡ Some (NumberValue y) → does order (Store size dst off src) m ≡ Some (at_top m (m.top.slot + 1) (with_bytes (bytes_of order (byte_count size) y) t.first m.top.stack))
unfolding does
does_store_number order size dst src off y m value t e = rw (t.base, e, t.place) (store_top order (byte_count size) y t.first (m.top.slot + 1) m)

pub byte_count_few : (size : Size) → byte_count size ≤ 8
byte_count_few B = omega arith
byte_count_few H = omega arith
byte_count_few W = omega arith
byte_count_few DW = omega arith

-- ---- a store of a constant

pub store_imm_base : (p : Instructions) (least most : ℕ) (x : List ℕ) (size : Size) (dst : Reg) (off imm : ℤ) (s : AbstractState) (m : machine.State) → IsJudged p least most x (StoreImm size dst off imm) s m → InTop m (store_access size dst off) (register s dst)
store_imm_base p least most x size dst off imm s m j =
    let f = no_fault_is least s (StoreImm size dst off imm) j.no_fault in
    in_top m least (store_access size dst off) (register s dst)
    (not-false (is_pointer (register s dst)) (or_parts (not (is_pointer (register s dst))) false f.kinds).0) f.protected f.bounds (j.described.registers dst)

pub store_imm_keeps : ConstantHas → (p : Instructions) (least most : ℕ) (x : List ℕ) (size : Size) (dst : Reg) (off imm : ℤ) (s : AbstractState) (m m' : machine.State) → IsJudged p least most x (StoreImm size dst off imm) s m → Step p m m' → Leads p least most x (after p.order (StoreImm size dst off imm) s) m'
store_imm_keeps constants p least most x size dst off imm s m m' j step =
    let t = store_imm_base p least most x size dst off imm s m j in
    let y : ℕ = extended imm in
    let small = extended_fits imm in
    let few : t.span.count ≤ 8 = subst (λ n. n ≤ 8) (sym t.count) (byte_count_few size) in
    let stack' : ℕ → List (Option Cell) = λ n. with_bytes (bytes_of p.order n y) t.first m.top.stack in
    let l : Leads p least most x (stored (Some t.span) (Num (constant y)) None s) (at_top m (m.top.slot + 1) (stack' t.span.count)) = number_stored p.order least most x s m t.span t.first (m.top.slot + 1) y (Num (constant y)) None j.valid (top_frame m j.state) t.lies few j.described small (constant_describes constants (machine.depth m) y small) tt (constants y small).0 p refl in
    let e : at_top m (m.top.slot + 1) (stack' t.span.count) ≡ m' = ap (λ n. at_top m (m.top.slot + 1) (stack' n)) t.count ∙ same_Some (at_top m (m.top.slot + 1) (stack' (byte_count size))) m' (sym (does_store_imm p.order size dst off imm m (register s dst) t) ∙ step_is p m m' (StoreImm size dst off imm) j.stands step) in
    subst (λ o. Leads p least most x (stored o (Num (constant y)) None s) m') (sym t.span_is)
    (leads_at p least most x (stored (Some t.span) (Num (constant y)) None s) (at_top m (m.top.slot + 1) (stack' t.span.count)) m' e l)

pub store_imm_reason : (p : Instructions) (least most : ℕ) (x : List ℕ) (size : Size) (dst : Reg) (off imm : ℤ) (s : AbstractState) (m : machine.State) → IsJudged p least most x (StoreImm size dst off imm) s m → reason_at m (StoreImm size dst off imm) ≡ None
unfolding reason_at
store_imm_reason p least most x size dst off imm s m j =
    let t = store_imm_base p least most x size dst off imm s m j in
    rw (t.base, t.place)
