-- Loads: of a number, or of a pointer as a whole.
use Rattle.std.proofs.Common.{◌≡◌, ℕ, ℤ, ◌+ℤ◌, ◌≤ℤ◌, ◌+◌, ◌%◌, ◌≤◌, refl, sym, ◌∙◌, ap, subst, arith, List, get_or, Option, Some, None, Bool, true, false, cond}
use Rattle.std.specs.Prelude.{◌==◌, ◌&&◌, not, option_map, unsigned_abs}
use Rattle.std.specs.Option.{option_or}
use Rattle.std.specs.Cmp.Derive.{both_true}
use Rattle.std.proofs.lemmas.Bool.{false≢true, or_parts, not-false}
use Rattle.std.proofs.lemmas.Bool.Decides.{Decides-int_eq, Decides-eqb}
use Rattle.std.proofs.lemmas.Option.{same_Some}
use Rattle.bpf_insn.specs.declared.order.Order.{Order}
use Rattle.bpf_semantics.specs.declared.value.Value.{Value}
use Rattle.bpf_semantics.specs.declared.value.Value.TheVariants.{Number as NumberValue, Pointer as PointerValue}
use Rattle.bpf_semantics.specs.declared.value.Region.{Region}
use Rattle.bpf_semantics.specs.declared.value.Region.TheVariants.{Frame as FrameAt}
use Rattle.bpf_semantics.specs.declared.reason.Reason.{Reason}
use Rattle.bpf_insn.specs.declared.instruction.Reg.{Reg}
use Rattle.bpf_insn.specs.declared.instruction.Size.{Size}
use Rattle.bpf_insn.specs.declared.instruction.Size.TheVariants.{B, H, W, DW}
use Rattle.bpf_insn.specs.declared.instruction.Insn.TheVariants.{Load}
use Rattle.bpf_insn.specs.Instruction.{register_number, Instructions, byte_count}
use Rattle.bpf_insn.specs.Order.{number_of}
use Rattle.bpf_insn.specs.Options.{◌>>=◌}
use Rattle.bpf_semantics.specs.Step.{load, Step, does}
use Rattle.bpf_semantics.specs.Stuck.{unreadable, unreadable_at, loads_pointer, reason_at}
use Rattle.bpf_insn.specs.Effects.{Access}
use Rattle.bpf_semantics.specs.State as machine
use Rattle.bpf_semantics.specs.State.{Cell}
use Rattle.bpf_semantics.specs.Memory.{Location, bytes_at, number_at, pointer_at, pointer_in, location_of}
use Rattle.bpf_semantics.specs.Memory.Location.{InFrame}
use Rattle.bpf_num.specs.Laws.{TightenKeeps}
use Rattle.bpf_state.specs.declared.known.RegState.{RegState}
use Rattle.bpf_state.specs.declared.known.RegState.TheVariants.{Any, Num, Ptr}
use Rattle.bpf_state.specs.declared.known.SlotState.{SlotState}
use Rattle.bpf_state.specs.declared.known.SlotState.TheVariants.{Bytes, Word, Spilled}
use Rattle.bpf_state.specs.declared.known.Tag.{Tag}
use Rattle.bpf_state.specs.State.{AbstractState, register, slot, slot_tag, slot_value, put_register, IsAbstractRegister}
use Rattle.bpf_state.specs.Access.{Span, span_from, span_of, is_inside, is_known, is_slot, slot_number, is_pointer_slot, are_known_bytes, any_slot, touches, touched_bytes}
use Rattle.bpf_state.specs.Fault.{reads_part, some_passes, is_pointer}
use Rattle.bpf_state.specs.Transfer.{after, loaded, loaded_tag, any_number}
use Rattle.bpf_safety.specs.Describes.{DescribesRegister, DescribesSlot, TaggedRegister, TaggedSlot, IsSpilled, region_of}
use Rattle.bpf_safety.specs.Laws.{Leads, IsJudged}
use Rattle.bpf_safety.proofs.Areas.{context_pointer, frame_pointer, by_area}
use Rattle.bpf_safety.proofs.Judged.{NoFault, no_fault_is, step_is, leads_at, top_frame}
use Rattle.bpf_safety.proofs.Registers.{reg_top, put_is, register_put}
use Rattle.bpf_safety.proofs.ReadCells.{no_slot}
use Rattle.bpf_safety.proofs.ReadLocations.{Read, context_read, frame_read, frame_bytes, only_slot, stack_here}
use Rattle.bpf_safety.proofs.KnownNumbers.{Known, part_known, frame_known, number_fits, slot_value_valid}
use Rattle.bpf_safety.proofs.RegisterStores.{size_of_eight}
use Rattle.bpf_safety.proofs.FrameStores.{InTop, in_top}
use Rattle.bpf_safety.proofs.NumberStores.{WholeSlot, whole_slot_is}
use Rattle.bpf_safety.proofs.ByteStores.{IsPartCell, cells_of}
use Rattle.bpf_safety.proofs.Tests.{and3_true, and_at}

abbrev pub load_access : Size → Reg → ℤ → Access
load_access size src off = record { base = src; offset = off; size = size; reads = true; writes = false }

-- ---- what the machine loads

loads_number : (order : Order) (m : machine.State) (size : Size) (place : Location) (bytes : List ℕ) → bytes_at m (byte_count size) place ≡ Some bytes → pointer_at m place ≡ None → load order m size place ≡ Some (NumberValue (number_of order (byte_count size) bytes))
loads_number order m B place bytes e none = ap (λ o. option_map NumberValue (option_map (number_of order 1) o)) e
loads_number order m H place bytes e none = ap (λ o. option_map NumberValue (option_map (number_of order 2) o)) e
loads_number order m W place bytes e none = ap (λ o. option_map NumberValue (option_map (number_of order 4) o)) e
loads_number order m DW place bytes e none = ap (λ q. option_or q (option_map NumberValue (number_at order m 8 place))) none ∙ ap (λ o. option_map NumberValue (option_map (number_of order 8) o)) e

either_none : (t : Bool) (o : Option Reason) → o ≡ None → cond t o None ≡ None
either_none true o e = e
either_none false o e = refl

-- bytes are readable
place_readable : (m : machine.State) (size : Size) (dst src : Reg) (off : ℤ) (v : Value) (place : Location) → machine.register m src ≡ Some v → location_of m (byte_count size) off v ≡ Some place → unreadable_at m (byte_count size) place ≡ None → unreadable m (Load size dst src off) ≡ None
place_readable m size dst src off v place base at ok = either_none (not (loads_pointer m (Load size dst src off))) (machine.register m src >>= location_of m (byte_count size) off >>= unreadable_at m (byte_count size)) (rw (base, at, ok))

pointer_readable : (m : machine.State) (dst src : Reg) (off : ℤ) (v v' : Value) (place : Location) → machine.register m src ≡ Some v → location_of m 8 off v ≡ Some place → pointer_at m place ≡ Some v' → unreadable m (Load DW dst src off) ≡ None
pointer_readable m dst src off v v' place base at is = rw (base, at, is)

load_has_none : (m : machine.State) (size : Size) (dst src : Reg) (off at : ℤ) (region : Region) (place : Location) → machine.register m src ≡ Some (PointerValue region at) → location_of m (byte_count size) off (PointerValue region at) ≡ Some place → unreadable m (Load size dst src off) ≡ None → (register_number dst == 10) ≡ false → reason_at m (Load size dst src off) ≡ None
unfolding reason_at
load_has_none m size dst src off at region place base is ok other = rw (other, ok, base, is)

does_load : (order : Order) (m : machine.State) (size : Size) (dst src : Reg) (off : ℤ) (v v' : Value) (place : Location) → machine.register m src ≡ Some v → location_of m (byte_count size) off v ≡ Some place → load order m size place ≡ Some v' → (register_number dst == 10) ≡ false → does order (Load size dst src off) m ≡ Some (reg_top m (m.top.slot + 1) dst v')
unfolding does
does_load order m size dst src off v v' place base at is other = rw (base, at, is) (put_is dst v' (m.top.slot + 1) m other)

-- ---- what is loaded, and what is known of it

record Loaded (p : Instructions) (x : List ℕ) (s : AbstractState) (m : machine.State) (size : Size) (dst src : Reg) (off : ℤ) : Type 0 where
  pub region : Region
  pub offset : ℤ
  pub place : Location
  pub value : Value
  pub state : RegState
  pub base : machine.register m src ≡ Some (PointerValue region offset)
  pub at : location_of m (byte_count size) off (PointerValue region offset) ≡ Some place
  pub loads : load p.order m size place ≡ Some value
  pub readable : unreadable m (Load size dst src off) ≡ None
  pub is_there : loaded s (span_of s (Load size dst src off)) size ≡ Some state
  pub describes : DescribesRegister (machine.depth m) state (Some value)
  pub tagged : TaggedRegister x (loaded_tag s (span_of s (Load size dst src off))) (Some value)
  pub valid : IsAbstractRegister state

module _ (p : Instructions) (least most : ℕ) (x : List ℕ) (size : Size) (dst src : Reg) (off : ℤ) (s : AbstractState) (m : machine.State) (j : IsJudged p least most x (Load size dst src off) s m) where
  other : (register_number dst == 10) ≡ false
  other = (or_parts (register_number dst == 10) false (no_fault_is least s (Load size dst src off) j.no_fault).protected).0

  loaded_keeps : Loaded p x s m size dst src off → (m' : machine.State) → Step p m m' → Leads p least most x (after p.order (Load size dst src off) s) m'
  loaded_keeps l m' step =
      let tag : Option Tag = loaded_tag s (span_of s (Load size dst src off)) in
      let is : reg_top m (m.top.slot + 1) dst l.value ≡ m' = same_Some (reg_top m (m.top.slot + 1) dst l.value) m' (sym (does_load p.order m size dst src off (PointerValue l.region l.offset) l.value l.place l.base l.at l.loads other) ∙ step_is p m m' (Load size dst src off) j.stands step) in
      subst (λ o. Leads p least most x (option_map (λ v. put_register dst v tag s) o) m') (sym l.is_there)
      (leads_at p least most x (Some (put_register dst l.state tag s)) (reg_top m (m.top.slot + 1) dst l.value) m' is
      (register_put p least most x s m dst l.value (m.top.slot + 1) l.state tag j.valid (top_frame m j.state) j.described l.describes l.tagged l.valid))

-- ---- a number

number_loaded : (p : Instructions) (x : List ℕ) (s : AbstractState) (m : machine.State) (size : Size) (dst src : Reg) (off : ℤ) (bytes : List ℕ) (r : Read m (load_access size src off) bytes) (span : Span) → span_of s (Load size dst src off) ≡ Some span → Known x s m span size (number_of p.order (byte_count size) bytes) → Loaded p x s m size dst src off
number_loaded p x s m size dst src off bytes r span is k = record {
  region = r.region;
  offset = r.offset;
  place = r.place;
  value = NumberValue (number_of p.order (byte_count size) bytes);
  state = k.state;
  base = r.base;
  at = r.at;
  loads = loads_number p.order m size r.place bytes r.are r.plain;
  readable = place_readable m size dst src off (PointerValue r.region r.offset) r.place r.base r.at r.readable;
  is_there = ap (λ o. loaded s o size) is ∙ k.is_there;
  describes = k.describes;
  tagged = subst (λ tag. TaggedRegister x tag (Some (NumberValue (number_of p.order (byte_count size) bytes)))) (sym (ap (λ o. loaded_tag s o) is)) k.tagged;
  valid = k.valid;
}

-- ---- a pointer

-- a part is no byte of a number
spilled_tag : (order : Order) (x : List ℕ) (region : Region) (lo hi : ℤ) (tag : Option Tag) (cell : ℕ → Option Cell) (v : Option Value) → IsSpilled region lo hi cell → TaggedSlot order x tag cell → TaggedRegister x tag v
spilled_tag order x region lo hi None cell v sp d = tt
spilled_tag order x region lo hi (Some t) cell v sp d = absurd (subst (λ c. IsPartCell c) (sym (sp.1 0 (omega arith)) ∙ d.1.2 0 (omega arith)) tt)

module _ (tightens : TightenKeeps) (p : Instructions) (least most : ℕ) (x : List ℕ) (size : Size) (dst src : Reg) (off : ℤ) (s : AbstractState) (m : machine.State) (j : IsJudged p least most x (Load size dst src off) s m) where
  fault : NoFault least s (Load size dst src off)
  fault = no_fault_is least s (Load size dst src off) j.no_fault

  module _ (t : InTop m (load_access size src off) (register s src)) where
    known_bytes : any_slot (λ k held. touches t.span k && not (are_known_bytes (touched_bytes t.span k) held)) 1 s.slots ≡ false
    known_bytes = subst (λ o. some_passes (λ p. any_slot (λ k held. touches p k && not (are_known_bytes (touched_bytes p k) held)) 1 s.slots) o ≡ false) t.span_is fault.bytes

    few_pointers : (not (is_slot t.span) && any_slot (λ k held. touches t.span k && is_pointer_slot held) 1 s.slots) ≡ false
    few_pointers = subst (λ o. some_passes (λ p. not (is_slot p) && any_slot (λ k held. touches p k && is_pointer_slot held) 1 s.slots) o ≡ false) t.span_is (or_parts (not (is_pointer (register s src))) (reads_part s (Load size dst src off)) fault.kinds).1

    plain_loaded : ((k : ℕ) → 1 ≤ k → k ≤ 64 → touches t.span k ≡ true → is_pointer_slot (slot s k) ≡ false) → Loaded p x s m size dst src off
    plain_loaded plain =
        let r = frame_bytes p.order least most x s m (load_access size src off) (register s src) j.valid j.state j.described t plain known_bytes in
        number_loaded p x s m size dst src off r.bytes (frame_read m (load_access size src off) (register s src) t r) t.span t.span_is
        (frame_known tightens p.order least most x s m (load_access size src off) (register s src) j.valid j.described t r plain)

    part_loaded : is_slot t.span ≡ false → Loaded p x s m size dst src off
    part_loaded part =
        let none = and_at (not (is_slot t.span)) (any_slot (λ k held. touches t.span k && is_pointer_slot held) 1 s.slots) few_pointers (ap not part) in
        plain_loaded (λ k low high touched. and_at (touches t.span k) (is_pointer_slot (slot s k)) (no_slot (λ k held. touches t.span k && is_pointer_slot held) k s.slots none j.valid.slots_are low high) touched)

    word_loaded : is_slot t.span ≡ true → is_pointer_slot (slot s (slot_number t.span)) ≡ false → Loaded p x s m size dst src off
    word_loaded whole plain =
        let w = whole_slot_is t.span t.first t.lies whole in
        let known = (Decides-int_eq t.span.lowest t.span.highest).0 (and3_true (is_known t.span) (t.span.count == 8) (unsigned_abs t.span.lowest % 8 == 0) whole).0 in
        plain_loaded (λ k low high touched. subst (λ n. is_pointer_slot (slot s n) ≡ false) (sym (only_slot p.order least most x s m t.span t.first j.valid (top_frame m j.state) j.described t.lies w known k low high touched)) plain)

    -- a whole slot with a pointer
    spilled_loaded : is_slot t.span ≡ true → (region : Region) (lo hi : ℤ) → IsSpilled region lo hi (cells_of m.top.stack (slot_number t.span)) → ((off : ℤ) → lo ≤ℤ off → off ≤ℤ hi → DescribesRegister (machine.depth m) (slot_value (slot s (slot_number t.span))) (Some (PointerValue region off))) → Loaded p x s m size dst src off
    spilled_loaded whole region lo hi sp law =
        let w = whole_slot_is t.span t.first t.lies whole in
        let k0 : ℕ = slot_number t.span in
        let at = w.at in
        let low = w.low in
        let high = w.high in
        let eight : byte_count size ≡ 8 = sym t.count ∙ w.count in
        let is_dw = size_of_eight size eight in
        let even : t.first % 8 ≡ 0 = omega arith in
        let on = both_true t.lies.in_frame whole in
        let v : Value = PointerValue region sp.0 in
        let place : Location = InFrame (machine.depth m) t.first in
        let there : pointer_at m place ≡ Some v =
        ap (λ st. cond (t.first % 8 == 0) (pointer_in (get_or st t.first None)) None) (stack_here m)
        ∙ ap (λ b. cond b (pointer_in (get_or m.top.stack t.first None)) None) ((Decides-eqb (t.first % 8) 0).1 even)
        ∙ ap (λ n. pointer_in (get_or m.top.stack n None)) (omega arith) ∙ ap pointer_in (sp.1 0 (omega arith)) in
        let at8 = subst (λ sz. location_of m (byte_count sz) off (PointerValue (FrameAt (machine.depth m)) t.offset) ≡ Some place) is_dw t.place in
        record {
          region = FrameAt (machine.depth m);
          offset = t.offset;
          place = place;
          value = v;
          state = slot_value (slot s k0);
          base = t.base;
          at = t.place;
          loads = subst (λ sz. load p.order m sz place ≡ Some v) (sym is_dw) (ap (λ q. option_or q (option_map NumberValue (number_at p.order m 8 place))) there);
          readable = subst (λ sz. unreadable m (Load sz dst src off) ≡ None) (sym is_dw) (pointer_readable m dst src off (PointerValue (FrameAt (machine.depth m)) t.offset) v place t.base at8 there);
          is_there = ap (λ o. loaded s o size) t.span_is ∙ ap (λ b. cond b (Some (slot_value (slot s k0))) (option_map Num (any_number (byte_count size)))) on;
          describes = law sp.0 sp.2 sp.3;
          tagged = subst (λ tag. TaggedRegister x tag (Some v)) (sym (ap (λ o. loaded_tag s o) t.span_is ∙ ap (λ b. cond b (slot_tag s k0) None) on))
              (spilled_tag p.order x region lo hi (slot_tag s k0) (cells_of m.top.stack k0) (Some v) sp (j.described.slot_tags k0 low high));
          valid = slot_value_valid (slot s k0) (j.valid.slots k0 low high);
        }

    whole_loaded : is_slot t.span ≡ true → Loaded p x s m size dst src off
    whole_loaded whole = by_held (slot s (slot_number t.span)) refl
      where
        w : WholeSlot t.span t.first
        w = whole_slot_is t.span t.first t.lies whole

        here : (h : SlotState) → slot s (slot_number t.span) ≡ h → DescribesSlot p.order (machine.depth m) h (cells_of m.top.stack (slot_number t.span))
        here h e = subst (λ h. DescribesSlot p.order (machine.depth m) h (cells_of m.top.stack (slot_number t.span))) e (j.described.slots (slot_number t.span) w.low w.high)

        by_held : (h : SlotState) → slot s (slot_number t.span) ≡ h → Loaded p x s m size dst src off
        by_held (Bytes mask) e = word_loaded whole (ap is_pointer_slot e)
        by_held (Word n) e = word_loaded whole (ap is_pointer_slot e)
        by_held (Spilled q) e =
            let region : Region = region_of (machine.depth m) q.area in
            spilled_loaded whole region q.lo q.hi (here (Spilled q) e) (λ off l h. subst (λ held. DescribesRegister (machine.depth m) (slot_value held) (Some (PointerValue region off))) (sym e) (off, refl, l, h))

    frame_loaded : Loaded p x s m size dst src off
    frame_loaded = by_test (is_slot t.span) refl
      where
        by_test : (b : Bool) → is_slot t.span ≡ b → Loaded p x s m size dst src off
        by_test true whole = whole_loaded whole
        by_test false part = part_loaded part

  load_is : Loaded p x s m size dst src off
  load_is = by_base (register s src) refl
    where
      pointer : is_pointer (register s src) ≡ true
      pointer = not-false (is_pointer (register s src)) (or_parts (not (is_pointer (register s src))) (reads_part s (Load size dst src off)) fault.kinds).0

      by_base : (r : RegState) → register s src ≡ r → Loaded p x s m size dst src off
      by_base Any e = absurd (false≢true (sym (ap is_pointer e) ∙ pointer))
      by_base (Num n) e = absurd (false≢true (sym (ap is_pointer e) ∙ pointer))
      by_base (Ptr q) e = by_area (λ r. register s src ≡ r → Loaded p x s m size dst src off) in_context in_frame q e
        where
          in_context : (lo hi : ℤ) → register s src ≡ context_pointer lo hi → Loaded p x s m size dst src off
          in_context lo hi e =
              let r = context_read m least (load_access size src off) lo hi j.state j.described.length_within.0 (subst (λ r. some_passes (λ p. not (is_inside least p)) (span_from (load_access size src off) r) ≡ false) e fault.bounds) (subst (λ r. DescribesRegister (machine.depth m) r (machine.register m src)) e (j.described.registers src)) in
              let span : Span = record { in_frame = false; lowest = lo +ℤ off; highest = hi +ℤ off; count = byte_count size } in
              number_loaded p x s m size dst src off r.0 r.1 span (ap (λ r. span_from (load_access size src off) r) e)
              (part_known tightens x s m span size (number_of p.order (byte_count size) r.0) refl (number_fits p.order (byte_count size) r.0 r.1.fit))

          in_frame : (lo hi : ℤ) → register s src ≡ frame_pointer lo hi → Loaded p x s m size dst src off
          in_frame lo hi e =
              frame_loaded (in_top m least (load_access size src off) (register s src) pointer (subst (λ r. some_passes (λ p. not p.in_frame) (span_from (load_access size src off) r) ≡ false) (sym e) refl) fault.bounds (j.described.registers src))

  pub load_reason : reason_at m (Load size dst src off) ≡ None
  load_reason = let l = load_is in load_has_none m size dst src off l.offset l.region l.place l.base l.at l.readable (other p least most x size dst src off s m j)

pub load_keeps : TightenKeeps → (p : Instructions) (least most : ℕ) (x : List ℕ) (size : Size) (dst src : Reg) (off : ℤ) (s : AbstractState) (m m' : machine.State) → IsJudged p least most x (Load size dst src off) s m → Step p m m' → Leads p least most x (after p.order (Load size dst src off) s) m'
load_keeps tightens p least most x size dst src off s m m' j step = loaded_keeps p least most x size dst src off s m j (load_is tightens p least most x size dst src off s m j) m' step
