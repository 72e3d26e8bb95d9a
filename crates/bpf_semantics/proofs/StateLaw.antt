-- A step of a state leads to a state.
use Rattle.std.proofs.Common.{◌≡◌, suc, zero, List, [], ◌∷◌, ◌++◌, Option, Some, None, refl, ap, sym, subst, length, ◌<◌, ◌≤◌, ◌+◌, ◌*◌, ◌-◌, ◌%◌, ◌/◌, ◌^◌, ℕ, arith, ◌∙◌, inl, inr, ◌⊎◌, length-append}
use Rattle.std.specs.Prelude.{ℤ, pos, ◌+ℤ◌, ◌-ℤ◌, FitsSigned, ◌==◌, Bool, true, false, get_or, set, slice_index, take, drop, cond, option_map, replicate, leb, ltb}
use Rattle.std.proofs.lemmas.Option.{none-some, same_Some, option_and_then_some, cond_some}
use Rattle.std.proofs.lemmas.Bool.{cases_lt, cases_eq, leb-true, eqb-true, cond_both, ltb-true, and_from, and_left, and_right, le-leb, lt-leb, le-ltb, lt-ltb, cases_Bool}
use Rattle.std.proofs.lemmas.List.{length-set, get_or-drop, length-drop, length-take-le}
use Rattle.std.specs.Int.{w64, cast_signed}
use Rattle.std.specs.List.{AllByRecursion}
use Rattle.bpf_insn.specs.Order.{bytes_of, number_of}
use Rattle.bpf_insn.specs.Arithmetic.{modulo, alu, low, extended, sign_extend, swapped}
use Rattle.bpf_insn.specs.Instruction.{register_number, byte_count, insn_at, slot_count, word_size, target}
use Rattle.bpf_semantics.specs.State.{Cell, StackFrame, State, IsState, IsFrame, frame_at, depth, frame_bytes, max_frames, register, with_top, put, at_slot, number_of_register, FitsMachine, HoldsNoPart, HoldsPointer, IsNumberCell, cell}
use Rattle.bpf_semantics.specs.State.Cell.{Byte, Part}
use Rattle.bpf_semantics.specs.Memory.{Location, stack_of, inside, location_of, bytes_in, bytes_at, number_at, pointer_at, store_number, store_pointer, cell_after, part_after, with_bytes, with_parts, without_part, is_within, with_stack_in, with_frame, pointer_in}
use Rattle.bpf_semantics.specs.Memory.Location.{InContext, InFrame}
use Rattle.bpf_insn.specs.declared.order.Order.{Order}
use Rattle.bpf_insn.specs.declared.instruction.Reg.{Reg}
use Rattle.bpf_insn.specs.declared.instruction.Reg.TheVariants.{R0}
use Rattle.bpf_semantics.specs.declared.value.Value.{Value}
use Rattle.bpf_semantics.specs.declared.value.Value.TheVariants.{Number, Pointer}
use Rattle.bpf_semantics.specs.declared.value.Region.{Region}
use Rattle.bpf_semantics.specs.declared.value.Region.TheVariants.{Context, Frame as FrameAt}
use Rattle.bpf_insn.specs.Image.{HasEncoding}
use Rattle.bpf_semantics.specs.Step.{does, next, jump, alu_result, operand, load, load_extended, store, test_of_values, atomic_result, fetched, size_type, step_of, entered, saved, alu_of_values, moved, wrapped}
use Rattle.bpf_insn.specs.Effects.{fetch_register}
use Rattle.bpf_insn.specs.declared.instruction.Width.{Width}
use Rattle.bpf_insn.specs.declared.instruction.Size.{Size}
use Rattle.bpf_insn.specs.declared.instruction.Size.TheVariants.{DW}
use Rattle.bpf_insn.specs.declared.instruction.AluOp.{AluOp}
use Rattle.bpf_insn.specs.declared.instruction.AluOp.TheVariants.{Sub, Add, Mov}
use Rattle.bpf_insn.specs.declared.instruction.Insn.{Insn}
use Rattle.bpf_insn.specs.declared.instruction.Insn.TheVariants.{Alu, Neg, MovSx, End, LoadImm64, Load, LoadSx, Store, StoreImm, Atomic, Ja, JaLong, JumpIf, CallLocal, Exit}
use Rattle.bpf_insn.specs.declared.instruction.Width.TheVariants.{W32, W64}
use Rattle.std.proofs.Math.Facts.{sfits_to_z}
use Rattle.bpf_semantics.specs.MachineLaws.{StepKeepsStates}
use Rattle.bpf_semantics.proofs.NumberLemmas.{modulo_below, bytes_small, length-bytes_of, number_below, alu_below, sign_extend_below, swapped_below, size_small}
use Rattle.bpf_semantics.proofs.StateLemmas.{IsGood, option_map_some, frame_is, number_is, value_fits, operand_value_fits, state_at, get_each, length-each_cell, without_is, cond_option, left_is, all_none, encoding_at, good_next, slot_of, part_is_no_number, inside_is, or_cases_of}

-- ---- values

low_small : (b : ℕ) → b % 2 ^ 32 < 2 ^ 64
low_small b = omega arith

cast_fits : (x : ℕ) → x < 2 ^ 64 → FitsSigned w64 (cast_signed w64 x)
cast_fits x h = sfits_to_z {w = w64} {n = x} (record { fits = h })

-- what the part of a state after a write needs
put_state : {s : State} → IsState s → (r : Reg) (v : Value) (t : State) → FitsMachine (Some v) → put r v s ≡ Some t → IsState t
put_state {s = s} iss r v t fv e = subst IsState (put_is (register_number r == 10) _ t e)
    (record {
      few_frames = iss.few_frames;
      each_frame = (record { eleven = length-set s.top.registers (register_number r) (Some v) ∙ iss.each_frame.0.eleven; values = values_after s.top.registers (register_number r) v fv iss.each_frame.0.values; cells = iss.each_frame.0.cells; whole = iss.each_frame.0.whole }, iss.each_frame.1);
      bytes = iss.bytes;
    })
  where
    put_is : (b : Bool) (x y : State) → cond b None (Some x) ≡ Some y → x ≡ y
    put_is true x y e = absurd (none-some _ e)
    put_is false x y e = same_Some _ _ e

    values_after : (vs : List (Option Value)) (k : ℕ) (v : Value) → FitsMachine (Some v) → ((r : ℕ) → FitsMachine (get_or vs r None)) → (r : ℕ) → FitsMachine (get_or (set vs k (Some v)) r None)
    values_after [] k v fv old r = tt
    values_after (x ∷ vs) zero v fv old zero = fv
    values_after (x ∷ vs) zero v fv old (suc r) = old (suc r)
    values_after (x ∷ vs) (suc k) v fv old zero = old zero
    values_after (x ∷ vs) (suc k) v fv old (suc r) = values_after vs k v fv (λ r. old (suc r)) r

next_state : {s : State} → IsState s → (i : Insn) → IsState (next i s)
next_state {s = s} iss i = state_at iss (s.top.slot + slot_count i)

wrapped_fits : (z : ℤ) → FitsSigned w64 (wrapped z)
wrapped_fits z = cast_fits (modulo z (2 ^ 64)) (modulo_below z)

moved_pointer : (region : Region) (off z : ℤ) → FitsMachine (Some (Pointer region off)) → FitsSigned w64 z → FitsMachine (Some (Pointer region z))
moved_pointer Context off z h f = f
moved_pointer (FrameAt n) off z h f = (h.0, f)

values_machine : (width : Width) (op : AluOp) (a b v : Value) → FitsMachine (Some a) → FitsMachine (Some b) → alu_of_values width op a b ≡ Some v → FitsMachine (Some v)
values_machine width op (Number a) (Number b) v fa fb e = subst (λ v. FitsMachine (Some v)) (same_Some _ _ e) (alu_below width op a b fa fb)
values_machine W64 Add (Pointer region off) (Number b) v fa fb e = subst (λ v. FitsMachine (Some v)) (same_Some _ _ e) (moved_pointer region off _ fa (wrapped_fits (off +ℤ pos b)))
values_machine W64 Add (Number a) (Pointer region off) v fa fb e = subst (λ v. FitsMachine (Some v)) (same_Some _ _ e) (moved_pointer region off _ fb (wrapped_fits (off +ℤ pos a)))
values_machine W64 Sub (Pointer region off) (Number b) v fa fb e = subst (λ v. FitsMachine (Some v)) (same_Some _ _ e) (moved_pointer region off _ fa (wrapped_fits (off -ℤ pos b)))
values_machine W64 Sub (Pointer region off) (Pointer region' off') v fa fb e = let h = cond_option _ _ v e in subst (λ v. FitsMachine (Some v)) (same_Some _ _ h.1) (modulo_below _)
values_machine width op a b v fa fb e = absurd (none-some _ e)

moved_machine : (width : Width) (b v : Value) → FitsMachine (Some b) → moved width b ≡ Some v → FitsMachine (Some v)
moved_machine W64 b v fb e = subst (λ v. FitsMachine (Some v)) (same_Some _ _ e) fb
moved_machine W32 (Number b) v fb e = subst (λ v. FitsMachine (Some v)) (same_Some _ _ e) (low_small b)
moved_machine W32 (Pointer region off) v fb e = absurd (none-some _ e)

result_machine : (width : Width) (op : AluOp) (a : Option Value) (b v : Value) → FitsMachine a → FitsMachine (Some b) → alu_result width op a b ≡ Some v → FitsMachine (Some v)
result_machine width Mov a b v fa fb e = moved_machine width b v fb e
result_machine width op (Some a) b v fa fb e = values_machine width op a b v fa fb e
result_machine width op None b v fa fb e = absurd (none-some _ e)

-- ---- what is loaded

good_of : (s : State) (k : ℕ) (off : ℤ) (base : Value) (pl : Location) → location_of s k off base ≡ Some pl → IsGood s k pl
good_of s k off (Number n) pl e = absurd (none-some _ e)
good_of s k off (Pointer Context at) pl e =
    let h = option_map_some InContext (inside k (length s.context) (at +ℤ off)) pl e in
    subst (IsGood s k) h.2 (inside_is k (length s.context) (at +ℤ off) h.0 h.1).1
good_of s k off (Pointer (FrameAt n) at) pl e =
    let d = cond_option _ _ pl e in
    let h = option_map_some (InFrame n) (inside k frame_bytes ((at +ℤ off) +ℤ pos frame_bytes)) pl d.1 in
    subst (IsGood s k) h.2 (leb-true n (depth s) d.0, (inside_is k frame_bytes ((at +ℤ off) +ℤ pos frame_bytes) h.0 h.1).1)

spilled_machine : {s : State} → IsState s → (pl : Location) (v : Value) → IsGood s 8 pl → pointer_at s pl ≡ Some v → FitsMachine (Some v)
spilled_machine {s = s} iss (InContext i) v good e = absurd (none-some _ e)
spilled_machine {s = s} iss (InFrame n i) v good e =
    let h = cond_option (i % 8 == 0) _ v e in
    let aligned : i % 8 ≡ 0 = eqb-true (i % 8) 0 h.0 in
    let room = good.1 in
    let here : 8 * (i / 8) + 0 ≡ i = slot_of i aligned in
    elim ((frame_is iss n).whole (i / 8) (omega arith)) [
      | inl none ↦ absurd (part_is_no_number (get_or (stack_of s n) i None) v h.1 (subst (λ j. IsNumberCell (get_or (stack_of s n) j None)) here (none 0 (omega arith))))
      | inr holds ↦ (let first : get_or (stack_of s n) i None ≡ Some (Part 0 holds.region holds.offset) = subst (λ j. get_or (stack_of s n) j None ≡ Some (Part 0 holds.region holds.offset)) here (holds.parts 0 (omega arith)) in
          subst (λ v. FitsMachine (Some v)) (same_Some _ _ (sym (ap pointer_in first) ∙ h.1)) holds.fits)
    ]

take_some : (k : ℕ) (xs : List (Option Cell)) (j : ℕ) (c : Cell) → get_or (take k xs) j None ≡ Some c → get_or xs j None ≡ Some c
take_some zero xs j c e = absurd (none-some _ e)
take_some (suc k) [] j c e = absurd (none-some _ e)
take_some (suc k) (x ∷ xs) zero c e = e
take_some (suc k) (x ∷ xs) (suc j) c e = take_some k xs j c e

some_within : (xs : List (Option Cell)) (j : ℕ) (c : Cell) → get_or xs j None ≡ Some c → j < length xs
some_within [] j c e = absurd (none-some _ e)
some_within (x ∷ xs) zero c e = omega arith
some_within (x ∷ xs) (suc j) c e = let h = some_within xs j c e in omega arith

byte_is_small : (c : Option Cell) (b : ℕ) → c ≡ Some (Byte b) → IsNumberCell c → b < 256
byte_is_small c b e h = subst IsNumberCell e h

part_is_no_byte : (c : Option Cell) (b j : ℕ) (region : Region) (off : ℤ) → c ≡ Some (Byte b) → c ≡ Some (Part j region off) → ⊥
part_is_no_byte c b j region off e f = subst is_byte (same_Some _ _ (sym e ∙ f)) tt
  where
    is_byte : Cell → Type 0
    is_byte (Byte b) = Unit {0}
    is_byte (Part i region off) = ⊥

cell_small : (fr : StackFrame) → IsFrame fr → (j b : ℕ) → get_or fr.stack j None ≡ Some (Byte b) → b < 256
cell_small fr h j b e =
    let lt : j < 512 = rw h.cells at (some_within fr.stack j (Byte b) e) in
    let here : 8 * (j / 8) + j % 8 ≡ j = omega arith in
    let e' : get_or fr.stack (8 * (j / 8) + j % 8) None ≡ Some (Byte b) = ap (λ k. get_or fr.stack k None) here ∙ e in
    elim (h.whole (j / 8) (omega arith)) [
      | inl none ↦ byte_is_small _ b e' (none (j % 8) (omega arith))
      | inr holds ↦ absurd (part_is_no_byte _ b (j % 8) holds.region holds.offset e' (holds.parts (j % 8) (omega arith)))
    ]

bytes_in_small : (cells : List (Option Cell)) (bs : List ℕ) → ((j b : ℕ) → get_or cells j None ≡ Some (Byte b) → b < 256) → bytes_in cells ≡ Some bs → (j : ℕ) → slice_index bs j < 256
bytes_in_small [] bs h e j = subst (λ bs. slice_index bs j < 256) (same_Some _ _ e) (omega arith)
bytes_in_small (None ∷ cells) bs h e j = absurd (none-some _ e)
bytes_in_small (Some (Part i region off) ∷ cells) bs h e j = absurd (none-some _ e)
bytes_in_small (Some (Byte b) ∷ cells) bs h e j =
    let m = option_map_some (λ bs. b ∷ bs) (bytes_in cells) bs e in
    subst (λ bs. slice_index bs j < 256) m.2 (both b m.0 (h 0 b refl) (bytes_in_small cells m.0 (λ i c ec. h (suc i) c ec) m.1) j)
  where
    both : (b : ℕ) (bs : List ℕ) → b < 256 → ((j : ℕ) → slice_index bs j < 256) → (j : ℕ) → slice_index (b ∷ bs) j < 256
    both b bs hb h zero = hb
    both b bs hb h (suc j) = h j

taken_small : (k : ℕ) (xs : List ℕ) → ((j : ℕ) → slice_index xs j < 256) → (j : ℕ) → slice_index (take k xs) j < 256
taken_small zero xs h j = omega arith
taken_small (suc k) [] h j = omega arith
taken_small (suc k) (x ∷ xs) h zero = h 0
taken_small (suc k) (x ∷ xs) h (suc j) = taken_small k xs (λ j. h (suc j)) j

bytes_at_small : {s : State} → IsState s → (k : ℕ) (pl : Location) (bs : List ℕ) → bytes_at s k pl ≡ Some bs → (j : ℕ) → slice_index bs j < 256
bytes_at_small {s = s} iss k (InContext i) bs e = subst (λ bs. (j : ℕ) → slice_index bs j < 256) (same_Some _ _ e) (taken_small k (drop i s.context) (λ j. subst (λ x. x < 256) (sym (get_or-drop i s.context j 0)) (iss.bytes (i + j))))
bytes_at_small {s = s} iss k (InFrame n i) bs e = bytes_in_small (take k (drop i (stack_of s n))) bs (λ j b ec. cell_small (frame_at s n) (frame_is iss n) (i + j) b (sym (get_or-drop i (stack_of s n) j None) ∙ take_some k (drop i (stack_of s n)) j (Byte b) ec)) e

number_machine : {s : State} → IsState s → (order : Order) (size : Size) (pl : Location) (x : ℕ) → number_at order s (byte_count size) pl ≡ Some x → x < 2 ^ 64
number_machine {s = s} iss order size pl x e =
    let h = option_map_some (number_of order (byte_count size)) (bytes_at s (byte_count size) pl) x e in
    let b : number_of order (byte_count size) h.0 < 256 ^ byte_count size = number_below order (byte_count size) h.0 (bytes_at_small iss (byte_count size) pl h.0 h.1) in
    let c = size_small size in
    subst (λ x. x < 2 ^ 64) h.2 (omega arith)

loaded_number : {s : State} → IsState s → (order : Order) (size : Size) (pl : Location) (v : Value) → option_map Number (number_at order s (byte_count size) pl) ≡ Some v → FitsMachine (Some v)
loaded_number {s = s} iss order size pl v e =
    let h = option_map_some Number (number_at order s (byte_count size) pl) v e in
    subst (λ v. FitsMachine (Some v)) h.2 (number_machine iss order size pl h.0 h.1)

load_machine : {s : State} → IsState s → (order : Order) (size : Size) (pl : Location) (v : Value) → IsGood s (byte_count size) pl → load order s size pl ≡ Some v → FitsMachine (Some v)
load_machine {s = s} iss order DW pl v good e = or_cases_of (λ v. FitsMachine (Some v)) (pointer_at s pl) _ v e (spilled_machine iss pl v good) (loaded_number iss order DW pl v)
load_machine {s = s} iss order size pl v good e = loaded_number iss order size pl v e

-- ---- stores

-- cells of a slot that are as they were
is_out : (low high j : ℕ) → (j < low) ⊎ (high ≤ j) → is_within low high j ≡ false
is_out low high j (inl h) = and_left (leb low j) (ltb j high) (lt-leb low j h)
is_out low high j (inr h) = and_right (leb low j) (ltb j high) (le-ltb j high h)

outside : (i n k j : ℕ) → j < 8 → (k < i / 8) ⊎ ((i + n + 7) / 8 ≤ k) → is_within i (i + n) (8 * k + j) ≡ false
outside i n k j hj (inl h) = is_out i (i + n) (8 * k + j) (inl (omega arith))
outside i n k j hj (inr h) = is_out i (i + n) (8 * k + j) (inr (omega arith))

outside_slot : (i k j : ℕ) → j < 8 → i % 8 ≡ 0 → (k ≡ i / 8 → ⊥) → is_within i (i + 8) (8 * k + j) ≡ false
outside_slot i k j hj aligned ne = elim (cases_lt k (i / 8)) [
  | inl lt ↦ is_out i (i + 8) (8 * k + j) (inl (omega arith))
  | inr ge ↦ (let gt : i / 8 < k = elim (cases_lt (i / 8) k) [ inl x ↦ x | inr y ↦ absurd (ne (omega arith)) ] in is_out i (i + 8) (8 * k + j) (inr (omega arith)))
]

same_slot : (old new : List (Option Cell)) (k : ℕ) → ((j : ℕ) → j < 8 → cell new (8 * k + j) ≡ cell old (8 * k + j)) → HoldsNoPart old k ⊎ HoldsPointer old k → HoldsNoPart new k ⊎ HoldsPointer new k
same_slot old new k same (inl h) = inl (λ j hj. subst IsNumberCell (sym (same j hj)) (h j hj))
same_slot old new k same (inr h) = inr (record { region = h.region; offset = h.offset; fits = h.fits; parts = λ j hj. same j hj ∙ h.parts j hj })

without_is_number : (c : Option Cell) → (((b : ℕ) → c ≡ Some (Byte b) → b < 256)) → IsNumberCell (without_part c)
without_is_number None h = tt
without_is_number (Some (Byte b)) h = h b refl
without_is_number (Some (Part i region off)) h = tt

bytes_frame : (fr : StackFrame) (bytes : List ℕ) (i : ℕ) → IsFrame fr → ((j : ℕ) → slice_index bytes j < 256) → i + length bytes ≤ frame_bytes → IsFrame (with_stack_in fr (with_bytes bytes i fr.stack))
unfolding with_bytes
bytes_frame fr bytes i h small room = record {
  eleven = h.eleven;
  values = h.values;
  cells = length-each_cell (cell_after bytes i) 0 fr.stack ∙ h.cells;
  whole = λ k hk. elim (cases_Bool (is_within (i / 8) ((i + length bytes + 7) / 8) k)) [
    | inl touched ↦ inl (λ j hj.
        let slot : (8 * k + j) / 8 ≡ k = omega arith in
        let lt : 8 * k + j < length fr.stack = rw h.cells (omega arith) in
        subst IsNumberCell (sym (get_each (cell_after bytes i) fr.stack (8 * k + j) lt))
        (cond_both (is_within i (i + length bytes) (8 * k + j)) (Some (Byte (slice_index bytes (8 * k + j - i)))) _ IsNumberCell (λ e. small _)
        (λ e. rw (slot, touched) (without_is_number (get_or fr.stack (8 * k + j) None) (λ b. cell_small fr h (8 * k + j) b)))))
    | inr apart ↦ same_slot fr.stack (with_bytes bytes i fr.stack) k (λ j hj.
        let slot : (8 * k + j) / 8 ≡ k = omega arith in
        let lt : 8 * k + j < length fr.stack = rw h.cells (omega arith) in
        let far = without_is (i / 8) ((i + length bytes + 7) / 8) k apart in
        let out : is_within i (i + length bytes) (8 * k + j) ≡ false = outside i (length bytes) k j hj far in
        get_each (cell_after bytes i) fr.stack (8 * k + j) lt ∙ rw (out, slot, apart) refl) (h.whole k hk)
  ];
}

parts_frame : (fr : StackFrame) (region : Region) (off : ℤ) (i : ℕ) → IsFrame fr → FitsMachine (Some (Pointer region off)) → i % 8 ≡ 0 → i + 8 ≤ frame_bytes → IsFrame (with_stack_in fr (with_parts region off i fr.stack))
unfolding with_parts
parts_frame fr region off i h fits aligned room = record {
  eleven = h.eleven;
  values = h.values;
  cells = length-each_cell (part_after region off i) 0 fr.stack ∙ h.cells;
  whole = λ k hk. elim (cases_eq k (i / 8)) [
    | inl here ↦ inr (record {
      region = region;
      offset = off;
      fits = fits;
      parts = λ j hj.
          let lt : 8 * k + j < length fr.stack = rw h.cells (omega arith) in
          let inn : is_within i (i + 8) (8 * k + j) ≡ true = and_from _ _ (le-leb i (8 * k + j) (omega arith)) (lt-ltb (8 * k + j) (i + 8) (omega arith)) in
          let index : 8 * k + j - i ≡ j = omega arith in
          get_each (part_after region off i) fr.stack (8 * k + j) lt ∙ rw (inn, index) refl;
    })
    | inr there ↦ same_slot fr.stack (with_parts region off i fr.stack) k (λ j hj.
        let lt : 8 * k + j < length fr.stack = rw h.cells (omega arith) in
        let out : is_within i (i + 8) (8 * k + j) ≡ false = outside_slot i k j hj aligned there in
        get_each (part_after region off i) fr.stack (8 * k + j) lt ∙ rw out refl) (h.whole k hk)
  ];
}

set_all : (fs : List StackFrame) (q : ℕ) (fr : StackFrame) → IsFrame fr → AllByRecursion IsFrame fs → AllByRecursion IsFrame (set fs q fr)
set_all [] q fr h all = tt
set_all (x ∷ fs) zero fr h all = (h, all.1)
set_all (x ∷ fs) (suc q) fr h all = (all.0, set_all fs q fr h all.1)

frame_state : {s : State} → IsState s → (n : ℕ) (fr : StackFrame) → IsFrame fr → IsState (with_frame s n fr)
frame_state {s = s} iss n fr h = cond_both (n == depth s) (with_top s fr) _ IsState
    (λ e. record { few_frames = iss.few_frames; each_frame = (h, iss.each_frame.1); bytes = iss.bytes })
    (λ e. record { few_frames = subst (λ d. d < max_frames) (sym (length-set s.waiting (depth s - n - 1) fr)) iss.few_frames; each_frame = (iss.each_frame.0, set_all s.waiting (depth s - n - 1) fr h iss.each_frame.1); bytes = iss.bytes })

stored_number : {s : State} → IsState s → (order : Order) (k x : ℕ) (pl : Location) (t : State) → IsGood s k pl → store_number order k x pl s ≡ Some t → IsState t
unfolding store_number
stored_number {s = s} iss order k x (InContext i) t good e = absurd (none-some _ e)
stored_number {s = s} iss order k x (InFrame n i) t good e = subst IsState (same_Some _ _ e) (frame_state iss n _ (bytes_frame (frame_at s n) (bytes_of order k x) i (frame_is iss n) (bytes_small order k x) (rw (length-bytes_of order k x) good.1)))

stored_pointer : {s : State} → IsState s → (region : Region) (off : ℤ) (pl : Location) (t : State) → FitsMachine (Some (Pointer region off)) → IsGood s 8 pl → store_pointer region off pl s ≡ Some t → IsState t
unfolding store_pointer
stored_pointer {s = s} iss region off (InContext i) t fv good e = absurd (none-some _ e)
stored_pointer {s = s} iss region off (InFrame n i) t fv good e = let h = cond_some (i % 8 == 0) _ t e in subst IsState h.1 (frame_state iss n _ (parts_frame (frame_at s n) region off i (frame_is iss n) fv (eqb-true (i % 8) 0 h.0) good.1))

stored_state : {s : State} → IsState s → (order : Order) (size : Size) (v : Value) (pl : Location) (t : State) → FitsMachine (Some v) → IsGood s (byte_count size) pl → store order size v pl s ≡ Some t → IsState t
stored_state {s = s} iss order size (Number x) pl t fv good e = stored_number iss order (byte_count size) x pl t good e
stored_state {s = s} iss order DW (Pointer region off) pl t fv good e = stored_pointer iss region off pl t fv good e
stored_state {s = s} iss order size (Pointer region off) pl t fv good e = absurd (none-some _ e)

-- ---- the law

number_register : {s : State} → IsState s → (r : Reg) (n : ℕ) → number_of_register s r ≡ Some n → n < 2 ^ 64
number_register {s = s} iss r n e = value_fits iss r (Number n) (number_is s r n e)

fetched_state : {s : State} → IsState s → (o : Option Reg) (old : ℕ) (t : State) → old < 2 ^ 64 → fetched o old s ≡ Some t → IsState t
fetched_state iss None old t h e = subst IsState (same_Some _ _ e) iss
fetched_state iss (Some r) old t h e = put_state iss r (Number old) t h e

jumped : {s : State} → IsState s → (off : ℤ) (t : State) → jump s off ≡ Some t → IsState t
jumped {s = s} iss off t e = let h = option_map_some (λ slot. at_slot slot s) (target s.top.slot off) t e in subst IsState h.2 (state_at iss h.0)

branched : {s : State} → IsState s → (off : ℤ) (i : Insn) (taken : Bool) (t : State) → cond taken (jump s off) (Some (next i s)) ≡ Some t → IsState t
branched iss off i true t e = jumped iss off t e
branched iss off i false t e = subst IsState (same_Some _ _ e) (next_state iss i)

-- registers whose values all fit
abbrev pub FitAll : List (Option Value) → Type 0
FitAll vs = (r : ℕ) → FitsMachine (get_or vs r None)

fit_append : (xs ys : List (Option Value)) → FitAll xs → FitAll ys → FitAll (xs ++ ys)
fit_append [] ys hx hy r = hy r
fit_append (x ∷ xs) ys hx hy zero = hx 0
fit_append (x ∷ xs) ys hx hy (suc r) = fit_append xs ys (λ r. hx (suc r)) hy r

fit_take : (k : ℕ) (xs : List (Option Value)) → FitAll xs → FitAll (take k xs)
fit_take zero xs h r = tt
fit_take (suc k) [] h r = tt
fit_take (suc k) (x ∷ xs) h zero = h 0
fit_take (suc k) (x ∷ xs) h (suc r) = fit_take k xs (λ r. h (suc r)) r

fit_drop : (k : ℕ) (xs : List (Option Value)) → FitAll xs → FitAll (drop k xs)
fit_drop k xs h r = subst FitsMachine (sym (get_or-drop k xs r None)) (h (k + r))

fit_cons : (v : Option Value) (xs : List (Option Value)) → FitsMachine v → FitAll xs → FitAll (v ∷ xs)
fit_cons v xs hv h zero = hv
fit_cons v xs hv h (suc r) = h r

fit_none : (k : ℕ) → FitAll (replicate k None)
fit_none zero r = tt
fit_none (suc k) zero = tt
fit_none (suc k) (suc r) = fit_none k r

saved_frame : (fr : StackFrame) (slot : ℕ) → IsFrame fr → IsFrame (record { slot = slot; registers = saved fr.registers; stack = fr.stack })
saved_frame fr slot h = record {
  eleven = let e = length-drop 6 fr.registers in let l = h.eleven in omega arith;
  values = fit_append (replicate 6 None) (drop 6 fr.registers) (fit_none 6) (fit_drop 6 fr.registers h.values);
  cells = h.cells;
  whole = h.whole;
}

entered_state : {s : State} → IsState s → (slot : ℕ) → depth s + 1 < max_frames → IsState (entered s slot)
entered_state {s = s} iss slot room = record {
  few_frames = omega arith;
  each_frame = (
    record {
      eleven = callee_length (take 5 (drop 1 s.top.registers)) _ (length-take-le 5 (drop 1 s.top.registers) (rw (length-drop 1 s.top.registers, iss.each_frame.0.eleven) (omega arith)));
      values = fit_append (None ∷ take 5 (drop 1 s.top.registers) ++ replicate 4 None) (Some (Pointer (FrameAt (depth s + 1)) (pos 0)) ∷ []) (fit_append (None ∷ take 5 (drop 1 s.top.registers)) (replicate 4 None) (fit_cons None _ tt (fit_take 5 (drop 1 s.top.registers) (fit_drop 1 s.top.registers iss.each_frame.0.values))) (fit_none 4)) (fit_cons _ [] (room, record { sfits = omega arith }) (λ r. tt));
      cells = refl;
      whole = λ k hk. inl (λ j hj. subst IsNumberCell (sym (all_none 512 (8 * k + j))) tt);
    },
    (saved_frame s.top (s.top.slot + 1) iss.each_frame.0, iss.each_frame.1),
  );
  bytes = iss.bytes;
}
  where
    callee_length : (args : List (Option Value)) (v : Option Value) → length args ≡ 5 → length (None ∷ args ++ replicate 4 None ++ v ∷ []) ≡ 11
    callee_length args v h =
        let none : List (Option Value) = replicate 4 None in
        let e : length (args ++ none) ≡ length args + 4 = length-append args none in
        let f : length (args ++ none ++ v ∷ []) ≡ length (args ++ none) + 1 = length-append (args ++ none) (v ∷ []) in
        omega arith

left_state : {s : State} → IsState s → (v : ℕ) (caller : StackFrame) (rest : List StackFrame) → s.waiting ≡ caller ∷ rest → v < 2 ^ 64 → IsState (record { top = record { slot = caller.slot; registers = Some (Number v) ∷ drop 1 (saved caller.registers); stack = caller.stack }; waiting = rest; context = s.context })
left_state {s = s} iss v caller rest ew hv =
    let all : AllByRecursion IsFrame (caller ∷ rest) = subst (AllByRecursion IsFrame) ew iss.each_frame.1 in
    let h : IsFrame caller = all.0 in
    let count : depth s ≡ suc (length rest) = ap length ew in
    let few = iss.few_frames in
    record {
      few_frames = omega arith;
      each_frame = (record { eleven = let e = length-drop 6 caller.registers in let l = h.eleven in omega arith; values = fit_cons (Some (Number v)) (replicate 5 None ++ drop 6 caller.registers) hv (fit_append (replicate 5 None) (drop 6 caller.registers) (fit_none 5) (fit_drop 6 caller.registers h.values)); cells = h.cells; whole = h.whole }, all.1);
      bytes = iss.bytes;
    }

kept : (order : Order) (s t : State) (i : Insn) → HasEncoding i → IsState s → does order i s ≡ Some t → IsState t
unfolding does
kept order s t (Alu op width dst src) enc iss e = option_and_then_some _ (operand s src) t e (λ b eb e1. option_and_then_some _ (alu_result width op (register s dst) b) t e1 (λ v ev e2. put_state (next_state iss (Alu op width dst src)) dst v t (result_machine width op (register s dst) b v (iss.each_frame.0.values (register_number dst)) (operand_value_fits iss src b eb) ev) e2))
kept order s t (Neg width dst) enc iss e = option_and_then_some _ (number_of_register s dst) t e (λ a ea e1. put_state (next_state iss (Neg width dst)) dst (Number (alu width Sub 0 a)) t (alu_below width Sub 0 a (omega arith) (number_register iss dst a ea)) e1)
kept order s t (MovSx width bits dst src) enc iss e = option_and_then_some _ (number_of_register s src) t e (λ b eb e1. put_state (next_state iss (MovSx width bits dst src)) dst (Number (sign_extend bits width b)) t (sign_extend_below bits width b) e1)
kept order s t (End kind bits dst) enc iss e = option_and_then_some _ (number_of_register s dst) t e (λ a ea e1. put_state (next_state iss (End kind bits dst)) dst (Number (swapped order kind bits a)) t (swapped_below order kind bits a (number_register iss dst a ea)) e1)
kept order s t (LoadImm64 dst value) enc iss e = put_state (next_state iss (LoadImm64 dst value)) dst (Number value) t enc e
kept order s t (Load size dst src off) enc iss e = option_and_then_some _ (register s src) t e (λ base ebase e1. option_and_then_some _ (location_of s (byte_count size) off base) t e1 (λ pl epl e2. option_and_then_some _ (load order s size pl) t e2 (λ v ev e3.
    put_state (next_state iss (Load size dst src off)) dst v t (load_machine iss order size pl v (good_of s (byte_count size) off base pl epl) ev) e3)))
kept order s t (LoadSx size dst src off) enc iss e = option_and_then_some _ (register s src) t e (λ base ebase e1. option_and_then_some _ (location_of s (byte_count size) off base) t e1 (λ pl epl e2. option_and_then_some _ (load_extended order s size pl) t e2 (λ v ev e3.
    let h = option_map_some (λ x. Number (modulo (cast_signed (size_type size) x) (2 ^ 64))) (number_at order s (byte_count size) pl) v ev in
    put_state (next_state iss (LoadSx size dst src off)) dst v t (subst (λ v. FitsMachine (Some v)) h.2 (modulo_below _)) e3)))
kept order s t (Store size dst off src) enc iss e = option_and_then_some _ (register s dst) t e (λ base ebase e1. option_and_then_some _ (register s src) t e1 (λ v ev e2. option_and_then_some _ (location_of s (byte_count size) off base) t e2 (λ pl epl e3.
    stored_state (next_state iss (Store size dst off src)) order size v pl t (value_fits iss src v ev) (good_next s (Store size dst off src) (byte_count size) pl (good_of s (byte_count size) off base pl epl)) e3)))
kept order s t (StoreImm size dst off imm) enc iss e = option_and_then_some _ (register s dst) t e (λ base ebase e1. option_and_then_some _ (location_of s (byte_count size) off base) t e1 (λ pl epl e3.
    stored_state (next_state iss (StoreImm size dst off imm)) order size (Number (extended imm)) pl t (modulo_below imm) (good_next s (StoreImm size dst off imm) (byte_count size) pl (good_of s (byte_count size) off base pl epl)) e3))
kept order s t (Atomic wide op dst off src) enc iss e =
    let size : Size = word_size wide in
    let k : ℕ = byte_count size in
    let i : Insn = Atomic wide op dst off src in
    option_and_then_some _ (register s dst) t e (λ base ebase e1. option_and_then_some _ (number_of_register s src) t e1 (λ x ex e2. option_and_then_some _ (location_of s k off base) t e2 (λ pl epl e3. option_and_then_some _ (number_at order s k pl) t e3 (λ old eold e4. option_and_then_some _ (atomic_result op size old x (number_of_register s R0)) t e4 (λ new enew e5. option_and_then_some _ (store_number order k new pl (next i s)) t e5 (λ after eafter e6.
    fetched_state (stored_number (next_state iss i) order k new pl after (good_next s i k pl (good_of s k off base pl epl)) eafter) (fetch_register op src) old t (number_machine iss order size pl old eold) e6))))))
kept order s t (Ja off) enc iss e = jumped iss off t e
kept order s t (JaLong off) enc iss e = jumped iss off t e
kept order s t (JumpIf cond width dst src off) enc iss e = option_and_then_some _ (register s dst) t e (λ a ea e1. option_and_then_some _ (operand s src) t e1 (λ b eb e2. option_and_then_some _ (test_of_values width cond a b) t e2 (λ taken et e3. branched iss off (JumpIf cond width dst src off) taken t e3)))
kept order s t (CallLocal off) enc iss e =
    let h = cond_option _ _ t e in
    let room = ltb-true (depth s + 1) max_frames h.0 in
    let k = option_map_some (entered s) (target s.top.slot off) t h.1 in
    subst IsState k.2 (entered_state iss k.0 room)
kept order s t Exit enc iss e = option_and_then_some _ (number_of_register s R0) t e (λ v ev e1.
    let h = left_is s.waiting v s.context t e1 in
    subst IsState h.3 (left_state iss v h.0 h.1 h.2 (number_register iss R0 v ev)))

pub step_keeps_states : StepKeepsStates
unfolding step_of
step_keeps_states p s t prog iss e = option_and_then_some _ (insn_at p.list s.top.slot) t e (λ i ei ed. kept p.order s t i (encoding_at p.list prog.encoding s.top.slot i ei) iss ed)
