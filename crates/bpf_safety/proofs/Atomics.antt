-- Atomic operations: a number of the frame is read, and a number is written in its place.
use Rattle.std.proofs.Common.{◌≡◌, ℕ, ℤ, ◌+◌, ◌≤◌, refl, sym, ◌∙◌, ap, subst, List, Option, Some, None, Bool, true, false}
use Rattle.std.specs.Prelude.{◌&&◌, not, option_map, option_and_then}
use Rattle.std.specs.Option.{option_map_or}
use Rattle.std.proofs.lemmas.Bool.{false≢true, or_parts, not-false}
use Rattle.std.proofs.lemmas.Option.{same_Some}
use Rattle.bpf_insn.specs.declared.order.Order.{Order}
use Rattle.bpf_semantics.specs.declared.value.Value.{Value}
use Rattle.bpf_semantics.specs.declared.value.Value.TheVariants.{Number as NumberValue}
use Rattle.bpf_insn.specs.declared.instruction.Reg.{Reg}
use Rattle.bpf_insn.specs.declared.instruction.Reg.TheVariants.{R0}
use Rattle.bpf_insn.specs.declared.instruction.AtomicOp.{AtomicOp}
use Rattle.bpf_insn.specs.declared.instruction.AtomicOp.TheVariants.{Modify as Changes, Xchg, CmpXchg}
use Rattle.bpf_insn.specs.declared.instruction.Size.{Size}
use Rattle.bpf_insn.specs.declared.instruction.Insn.{Insn}
use Rattle.bpf_insn.specs.declared.instruction.Insn.TheVariants.{Atomic}
use Rattle.bpf_insn.specs.Instruction.{Instructions, byte_count, word_size}
use Rattle.bpf_insn.specs.Order.{number_of, bytes_of}
use Rattle.bpf_semantics.specs.Step.{Step, does, next, atomic_result, fetched as machine_fetched}
use Rattle.bpf_insn.specs.Effects.{fetch_register}
use Rattle.bpf_semantics.specs.Stuck.{reason_at, unreadable_at}
use Rattle.bpf_insn.specs.Effects.{Access, is_frame_pointer}
use Rattle.bpf_semantics.specs.State as machine
use Rattle.bpf_semantics.specs.State.{Cell, IsFrame, number_in}
use Rattle.bpf_semantics.specs.Memory.{Location, with_bytes, store_number}
use Rattle.bpf_semantics.specs.Memory.Location.{InFrame}
use Rattle.bpf_num.specs.Laws.{TightenKeeps}
use Rattle.bpf_state.specs.declared.known.RegState.{RegState}
use Rattle.bpf_state.specs.declared.known.RegState.TheVariants.{Any, Num, Ptr}
use Rattle.bpf_state.specs.State.{AbstractState, register, slot, put_register, IsAbstract, IsAbstractRegister}
use Rattle.bpf_state.specs.Access.{Span, span_from, any_slot, is_pointer_slot, are_known_bytes, touches, touched_bytes}
use Rattle.bpf_state.specs.Fault.{have_right_kinds, reads_part, some_passes, is_number, is_pointer, atomic_kinds}
use Rattle.bpf_state.specs.Transfer.{after, fetched, loaded, modified_by, slot_maybe_written, with_touched}
use Rattle.bpf_safety.specs.Describes.{Describes, DescribesRegister}
use Rattle.bpf_safety.specs.Laws.{Leads, IsJudged}
use Rattle.bpf_safety.proofs.Judged.{NoFault, no_fault_is, step_is, leads_at, top_frame}
use Rattle.bpf_safety.proofs.Registers.{reg_top, put_is, register_put}
use Rattle.bpf_safety.proofs.ReadCells.{ReadBytes, no_slot}
use Rattle.bpf_safety.proofs.ReadLocations.{frame_bytes, bytes_there, bytes_readable}
use Rattle.bpf_safety.proofs.KnownNumbers.{Known, frame_known}
use Rattle.bpf_safety.proofs.FrameStores.{InTop, in_top, store_top}
use Rattle.bpf_safety.proofs.NumberStores.{at_top, touched_describes, touched_valid, is_slot_maybe_written, length-bytes_of, are_bytes_of}
use Rattle.bpf_safety.proofs.ByteStores.{Write, unknown_slot}
use Rattle.bpf_safety.proofs.Tests.{and3_true, and_at}

abbrev pub atomic_access : Bool → Reg → ℤ → Access
atomic_access wide dst off = record { base = dst; offset = off; size = word_size wide; reads = true; writes = true }

-- ---- the operands

number_held : (depth : ℕ) (value : RegState) (v : Option Value) → is_number value ≡ true → DescribesRegister depth value v → (y : ℕ) × (v ≡ Some (NumberValue y))
number_held depth Any v is d = absurd (false≢true is)
number_held depth (Num n) v is d = (d.0, d.1)
number_held depth (Ptr p) v is d = absurd (false≢true is)

-- r0 holds a number, where the operation reads it
abbrev ReadsZero : AtomicOp → machine.State → Type 0
ReadsZero CmpXchg m = (z : ℕ) × (machine.register m R0 ≡ Some (NumberValue z))
ReadsZero (Changes by fetch) m = Unit {0}
ReadsZero Xchg m = Unit {0}

reads_zero : (op : AtomicOp) (s : AbstractState) (m : machine.State) → atomic_kinds op s ≡ true → DescribesRegister (machine.depth m) (register s R0) (machine.register m R0) → ReadsZero op m
reads_zero CmpXchg s m is d = number_held (machine.depth m) (register s R0) (machine.register m R0) is d
reads_zero (Changes by fetch) s m is d = tt
reads_zero Xchg s m is d = tt

result_is : (op : AtomicOp) (size : Size) (old y : ℕ) (m : machine.State) → ReadsZero op m → (new : ℕ) × (atomic_result op size old y (machine.number_of_register m R0) ≡ Some new)
result_is (Changes by fetch) size old y m zero = (_, refl)
result_is Xchg size old y m zero = (_, refl)
result_is CmpXchg size old y m zero = (_, ap (λ o. atomic_result CmpXchg size old y (option_and_then number_in o)) zero.1)

-- ---- the instruction

module _ (m : machine.State) (wide : Bool) (op : AtomicOp) (dst src : Reg) (off : ℤ) (value : RegState) (t : InTop m (atomic_access wide dst off) value) (y : ℕ) (is : machine.register m src ≡ Some (NumberValue y)) (zero : ReadsZero op m) (r : ReadBytes (byte_count (word_size wide)) t.first m.top.stack) where
  atomic_has_none : option_map_or is_frame_pointer (fetch_register op src) false ≡ false → reason_at m (Atomic wide op dst off src) ≡ None
  unfolding reason_at
  atomic_has_none other = by_op op zero other
    where
      readable : unreadable_at m (byte_count (word_size wide)) (InFrame (machine.depth m) t.first) ≡ None
      readable = bytes_readable m (byte_count (word_size wide)) t.first r

      by_op : (op : AtomicOp) → ReadsZero op m → option_map_or is_frame_pointer (fetch_register op src) false ≡ false → reason_at m (Atomic wide op dst off src) ≡ None
      by_op (Changes by fetch) zero other = rw (other, t.base, is, t.place, readable)
      by_op Xchg zero other = rw (other, t.base, is, t.place, readable)
      by_op CmpXchg zero other = rw (other, t.base, is, zero.1, t.place, readable)

  -- the number that is written, and the cells after it
  written : Order → ℕ
  written order = (result_is op (word_size wide) (number_of order (byte_count (word_size wide)) r.bytes) y m zero).0

  cells : Order → List (Option Cell)
  cells order = with_bytes (bytes_of order (byte_count (word_size wide)) (written order)) t.first m.top.stack

  does_atomic : (order : Order) → does order (Atomic wide op dst off src) m ≡ machine_fetched (fetch_register op src) (number_of order (byte_count (word_size wide)) r.bytes) (at_top m (m.top.slot + 1) (cells order))
  unfolding does cells written
  does_atomic order =
      let n : ℕ = byte_count (word_size wide) in
      let old : ℕ = number_of order n r.bytes in
      let i : Insn = Atomic wide op dst off src in
      let place : Location = InFrame (machine.depth m) t.first in
      let goes : ℕ → ℕ → Option machine.State = λ old new. option_and_then (λ after. machine_fetched (fetch_register op src) old after) (store_number order n new place (next i m)) in
      rw (t.base, is, t.place)
      (ap (λ o. option_and_then (λ old. option_and_then (λ new. goes old new) (atomic_result op (word_size wide) old y (machine.number_of_register m R0))) (option_map (number_of order n) o)) (bytes_there m n t.first r)
      ∙ ap (λ o. option_and_then (λ new. goes old new) o) (result_is op (word_size wide) old y m zero).1
      ∙ ap (λ o. option_and_then (λ after. machine_fetched (fetch_register op src) old after) o) (store_top order n (written order) t.first (m.top.slot + 1) m))

-- ---- the state after it

module _ (p : Instructions) (least most : ℕ) (x : List ℕ) (s : AbstractState) (m : machine.State) (span : Span) (c sl : ℕ) (bytes : List ℕ) (valid : IsAbstract s) (frame : IsFrame m.top) (w : Write m.top span c bytes) (d : Describes p.order least most x s m) where
  changed : AbstractState
  changed = with_touched span (λ k held. slot_maybe_written held) s

  next_state : machine.State
  next_state = at_top m sl (with_bytes bytes c m.top.stack)

  slots_changed : Leads p least most x (Some changed) next_state
  unfolding changed next_state
  slots_changed = record {
    state = changed;
    is_there = refl;
    valid = touched_valid p.order least most x s m span c sl bytes (λ k held. slot_maybe_written held) valid w d (λ k low high h. is_slot_maybe_written (slot s k) h);
    describes = touched_describes p.order least most x s m span c sl bytes (λ k held. slot_maybe_written held) valid w d (λ k low high. unknown_slot m.top span c bytes w k low high p.order (machine.depth m) (slot s k) (d.slots k low high));
  }

  -- a register is changed too: it and the slots as each would be by itself
  register_changed : (r : Reg) (v : Value) (value : RegState) → DescribesRegister (machine.depth m) value (Some v) → IsAbstractRegister value → Leads p least most x (Some (put_register r value None changed)) (reg_top next_state sl r v)
  unfolding changed next_state slots_changed
  register_changed r v value is ok =
      let put : AbstractState = put_register r value None s in
      let l = register_put p least most x s m r v sl value None valid frame d is tt ok in
      let e = same_Some put l.state l.is_there in
      let ok' : IsAbstract put = subst IsAbstract (sym e) l.valid in
      let d' : Describes p.order least most x put (reg_top m sl r v) = subst (λ t. Describes p.order least most x t (reg_top m sl r v)) (sym e) l.describes in
      let t = slots_changed in
      record {
        state = put_register r value None changed;
        is_there = refl;
        valid = record { eleven = ok'.eleven; slots_are = t.valid.slots_are; eleven_tags = ok'.eleven_tags; slot_tags_are = t.valid.slot_tags_are; registers = ok'.registers; slots = t.valid.slots };
        describes = record { length_within = d.length_within; registers = d'.registers; slots = t.describes.slots; register_tags = d'.register_tags; slot_tags = t.describes.slot_tags };
      }

module _ (p : Instructions) (least most : ℕ) (x : List ℕ) (wide : Bool) (op : AtomicOp) (dst src : Reg) (off : ℤ) (s : AbstractState) (m : machine.State) (j : IsJudged p least most x (Atomic wide op dst off src) s m) where
  fault : NoFault least s (Atomic wide op dst off src)
  fault = no_fault_is least s (Atomic wide op dst off src) j.no_fault

  kinds : (is_pointer (register s dst) ≡ true) × (is_number (register s src) ≡ true) × (atomic_kinds op s ≡ true)
  kinds = and3_true (is_pointer (register s dst)) (is_number (register s src)) (atomic_kinds op s) (not-false (have_right_kinds s (Atomic wide op dst off src)) (or_parts (not (have_right_kinds s (Atomic wide op dst off src))) (reads_part s (Atomic wide op dst off src)) fault.kinds).0)

  protected : (option_map_or is_frame_pointer (fetch_register op src) false ≡ false) × (some_passes (λ p. not p.in_frame) (span_from (atomic_access wide dst off) (register s dst)) ≡ false)
  protected = or_parts (option_map_or is_frame_pointer (fetch_register op src) false) (some_passes (λ p. not p.in_frame) (span_from (atomic_access wide dst off) (register s dst))) fault.protected

  pub atomic_base : InTop m (atomic_access wide dst off) (register s dst)
  atomic_base = in_top m least (atomic_access wide dst off) (register s dst) kinds.0 protected.1 fault.bounds (j.described.registers dst)

  source : (y : ℕ) × (machine.register m src ≡ Some (NumberValue y))
  source = number_held (machine.depth m) (register s src) (machine.register m src) kinds.1 (j.described.registers src)

  zero : ReadsZero op m
  zero = reads_zero op s m kinds.2 (j.described.registers R0)

  module _ (t : InTop m (atomic_access wide dst off) (register s dst)) where
    plain : (k : ℕ) → 1 ≤ k → k ≤ 64 → touches t.span k ≡ true → is_pointer_slot (slot s k) ≡ false
    plain k low high touched =
        let none = subst (λ o. some_passes (λ p. any_slot (λ k held. touches p k && is_pointer_slot held) 1 s.slots) o ≡ false) t.span_is (or_parts (not (have_right_kinds s (Atomic wide op dst off src))) (reads_part s (Atomic wide op dst off src)) fault.kinds).1 in
        and_at (touches t.span k) (is_pointer_slot (slot s k)) (no_slot (λ k held. touches t.span k && is_pointer_slot held) k s.slots none j.valid.slots_are low high) touched

    old_bytes : ReadBytes (byte_count (word_size wide)) t.first m.top.stack
    old_bytes =
        frame_bytes p.order least most x s m (atomic_access wide dst off) (register s dst) j.valid j.state j.described t plain
        (subst (λ o. some_passes (λ p. any_slot (λ k held. touches p k && not (are_known_bytes (touched_bytes p k) held)) 1 s.slots) o ≡ false) t.span_is fault.bytes)

    write : Write m.top t.span t.first (bytes_of p.order (byte_count (word_size wide)) (written m wide op dst src off (register s dst) t source.0 source.1 zero old_bytes p.order))
    write =
        let n : ℕ = byte_count (word_size wide) in
        let new : ℕ = written m wide op dst src off (register s dst) t source.0 source.1 zero old_bytes p.order in
        record { frame = top_frame m j.state; lies = t.lies; count = length-bytes_of p.order n new ∙ sym t.count; fit = are_bytes_of p.order n new }

    atomic_leads : TightenKeeps → (m' : machine.State) → Step p m m' → Leads p least most x (after p.order (Atomic wide op dst off src) s) m'
    unfolding changed next_state cells
    atomic_leads tightens m' goes =
        subst (λ o. Leads p least most x (option_and_then (fetched (fetch_register op src) (loaded s o (word_size wide))) (modified_by o s)) m') (sym t.span_is)
        (by_register (fetch_register op src) protected.0 (sym (does_atomic m wide op dst src off (register s dst) t source.0 source.1 zero old_bytes p.order) ∙ step_is p m m' (Atomic wide op dst off src) j.stands goes))
      where
        sl : ℕ
        sl = m.top.slot + 1

        old : ℕ
        old = number_of p.order (byte_count (word_size wide)) old_bytes.bytes

        bytes : List ℕ
        bytes = bytes_of p.order (byte_count (word_size wide)) (written m wide op dst src off (register s dst) t source.0 source.1 zero old_bytes p.order)

        new_state : AbstractState
        new_state = with_touched t.span (λ k held. slot_maybe_written held) s

        new_machine : machine.State
        new_machine = at_top m sl (with_bytes bytes t.first m.top.stack)

        known : Known x s m t.span (word_size wide) old
        known = frame_known tightens p.order least most x s m (atomic_access wide dst off) (register s dst) j.valid j.described t old_bytes plain

        by_register : (f : Option Reg) → option_map_or is_frame_pointer f false ≡ false → machine_fetched f old new_machine ≡ Some m' → Leads p least most x (fetched f (loaded s (Some t.span) (word_size wide)) new_state) m'
        by_register None other did =
            leads_at p least most x (Some new_state) new_machine m' (same_Some new_machine m' did)
            (slots_changed p least most x s m t.span t.first sl bytes j.valid (top_frame m j.state) write j.described)
        by_register (Some r) other did =
            subst (λ o. Leads p least most x (option_map (λ v. put_register r v None new_state) o) m') (sym known.is_there)
            (leads_at p least most x (Some (put_register r known.state None new_state)) (reg_top new_machine sl r (NumberValue old)) m' (same_Some (reg_top new_machine sl r (NumberValue old)) m' (sym (put_is r (NumberValue old) sl new_machine other) ∙ did))
            (register_changed p least most x s m t.span t.first sl bytes j.valid (top_frame m j.state) write j.described r (NumberValue old) known.state known.describes known.valid))

  pub atomic_reason : reason_at m (Atomic wide op dst off src) ≡ None
  atomic_reason = atomic_has_none m wide op dst src off (register s dst) atomic_base source.0 source.1 zero (old_bytes atomic_base) protected.0

pub atomic_keeps : TightenKeeps → (p : Instructions) (least most : ℕ) (x : List ℕ) (wide : Bool) (op : AtomicOp) (dst src : Reg) (off : ℤ) (s : AbstractState) (m m' : machine.State) → IsJudged p least most x (Atomic wide op dst off src) s m → Step p m m' → Leads p least most x (after p.order (Atomic wide op dst off src) s) m'
atomic_keeps tightens p least most x wide op dst src off s m m' j goes = atomic_leads p least most x wide op dst src off s m j (atomic_base p least most x wide op dst src off s m j) tightens m' goes
