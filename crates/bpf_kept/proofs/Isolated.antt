-- A program that hands no pointer into the frame on: only r10 has one, on each way.
use Rattle.std.proofs.Common.{◌≡◌, ℕ, zero, suc, ◌+◌, ◌-◌, ◌/◌, ◌<◌, ◌≤◌, ◌⊎◌, ◌==◌, inl, inr, refl, sym, ap, ◌∙◌, subst, arith, Bool, true, false, List, [], ◌∷◌, ◌++◌, length, Option, Some, None, cond}
use Rattle.std.specs.Prelude.{ℤ, pos, ⊤, ◌+ℤ◌, get_or, set, take, drop, replicate, ltb, slice_index, option_map}
use Rattle.std.specs.List.{AllByRecursion}
use Rattle.std.specs.Option.{option_or}
use Rattle.std.proofs.lemmas.Bool.{cond_both, eqb-false, cases_lt, cases_eq, false≢true}
use Rattle.std.proofs.lemmas.List.{get_or-set_same, get_or-set_other, get_or-take, get_or-drop, length-take-le, length-drop}
use Rattle.std.proofs.lemmas.Option.{none-some, same_Some, option_and_then_some}
use Rattle.bpf_insn.specs.Order.{bytes_of}
use Rattle.bpf_insn.specs.Arithmetic.{extended}
use Rattle.bpf_insn.specs.Effects.{fetch_register, is_frame_pointer}
use Rattle.bpf_insn.specs.Instruction.{register_number, byte_count, word_size, target}
use Rattle.bpf_insn.specs.declared.order.Order.{Order}
use Rattle.bpf_insn.specs.declared.instruction.Reg.{Reg}
use Rattle.bpf_insn.specs.declared.instruction.Reg.TheVariants.{R0}
use Rattle.bpf_insn.specs.declared.instruction.Operand.{Operand}
use Rattle.bpf_insn.specs.declared.instruction.Operand.TheVariants.{Imm, Reg as FromReg}
use Rattle.bpf_insn.specs.declared.instruction.Size.{Size}
use Rattle.bpf_insn.specs.declared.instruction.Size.TheVariants.{DW}
use Rattle.bpf_insn.specs.declared.instruction.Width.{Width}
use Rattle.bpf_insn.specs.declared.instruction.Width.TheVariants.{W32, W64}
use Rattle.bpf_insn.specs.declared.instruction.AluOp.{AluOp}
use Rattle.bpf_insn.specs.declared.instruction.AluOp.TheVariants.{Add, Sub, Mov}
use Rattle.bpf_insn.specs.declared.instruction.Insn.{Insn}
use Rattle.bpf_insn.specs.declared.instruction.Insn.TheVariants.{Alu, Neg, MovSx, End, LoadImm64, Load, LoadSx, Store, StoreImm, Atomic, Ja, JaLong, JumpIf, CallLocal, Exit}
use Rattle.bpf_semantics.specs.State.{Cell, State, StackFrame, IsState, frames, frame_at, depth, register, number_of_register, put, with_register, with_top, at_slot, start, frame_bytes, max_frames}
use Rattle.bpf_semantics.specs.State.Cell.{Byte, Part}
use Rattle.bpf_semantics.specs.Memory.{Location, inside, location_of, number_at, pointer_at, pointer_in, stack_of, each_cell, cell_after, part_after, with_bytes, with_parts, without_part, is_within, with_frame, with_stack_in, store_number, store_pointer}
use Rattle.bpf_semantics.specs.Memory.Location.{InContext, InFrame}
use Rattle.bpf_semantics.specs.Step.{does, call, entered, saved, next, jump, operand, alu_of_values, moved, alu_result, load, load_extended, store, test_of_values, atomic_result, fetched}
use Rattle.bpf_semantics.specs.declared.value.Value.{Value}
use Rattle.bpf_semantics.specs.declared.value.Value.TheVariants.{Number, Pointer}
use Rattle.bpf_semantics.specs.declared.value.Region.{Region}
use Rattle.bpf_semantics.specs.declared.value.Region.TheVariants.{Context, Frame as FrameAt}
use Rattle.bpf_semantics.proofs.StateLemmas.{option_map_some, cond_option, all_get, all_none, left_is}
use Rattle.bpf_kept.specs.Matching.{hands_frame}

-- ---- what isn't a pointer into a frame

abbrev pub IsElsewhere : Region → Type 0
IsElsewhere Context = ⊤
IsElsewhere (FrameAt n) = ⊥

abbrev pub IsPlain : Option Value → Type 0
IsPlain None = ⊤
IsPlain (Some (Number n)) = ⊤
IsPlain (Some (Pointer region off)) = IsElsewhere region

abbrev pub IsPlainCell : Option Cell → Type 0
IsPlainCell None = ⊤
IsPlainCell (Some (Byte b)) = ⊤
IsPlainCell (Some (Part i region off)) = IsElsewhere region

pub record IsPlainFrame (frame : StackFrame) : Type 0 where
  pub registers : (r : ℕ) → (r ≡ 10 → ⊥) → IsPlain (get_or frame.registers r None)
  pub cells : (j : ℕ) → IsPlainCell (get_or frame.stack j None)

abbrev pub AreAlone : State → Type 0
AreAlone s = AllByRecursion IsPlainFrame (frames s)

pub starts_alone : (context : List ℕ) → AreAlone (start context)
starts_alone context = (record { registers = begin; cells = λ j. subst IsPlainCell (sym (all_none frame_bytes j)) tt }, tt)
  where
    begin : (r : ℕ) → (r ≡ 10 → ⊥) → IsPlain (get_or (start context).top.registers r None)
    begin zero other = tt
    begin (suc zero) other = tt
    begin (suc (suc zero)) other = tt
    begin (suc (suc (suc zero))) other = tt
    begin (suc (suc (suc (suc zero)))) other = tt
    begin (suc (suc (suc (suc (suc zero))))) other = tt
    begin (suc (suc (suc (suc (suc (suc zero)))))) other = tt
    begin (suc (suc (suc (suc (suc (suc (suc zero))))))) other = tt
    begin (suc (suc (suc (suc (suc (suc (suc (suc zero)))))))) other = tt
    begin (suc (suc (suc (suc (suc (suc (suc (suc (suc zero))))))))) other = tt
    begin (suc (suc (suc (suc (suc (suc (suc (suc (suc (suc zero)))))))))) other = absurd (other refl)
    begin (suc (suc (suc (suc (suc (suc (suc (suc (suc (suc (suc r))))))))))) other = tt

plain_register : (s : State) (r : Reg) → AreAlone s → is_frame_pointer r ≡ false → IsPlain (register s r)
plain_register s r all e = all.0.registers (register_number r) (eqb-false (register_number r) 10 e)

plain_some : (s : State) (r : Reg) (v : Value) → AreAlone s → is_frame_pointer r ≡ false → register s r ≡ Some v → IsPlain (Some v)
plain_some s r v all e ev = subst IsPlain ev (plain_register s r all e)

-- ---- writes to registers

at_slot_alone : (s : State) (slot : ℕ) → AreAlone s → AreAlone (at_slot slot s)
at_slot_alone s slot all = (record { registers = all.0.registers; cells = all.0.cells }, all.1)

put_other : (r : Reg) (v : Value) (s t : State) → put r v s ≡ Some t → is_frame_pointer r ≡ false
put_other r v s t e = by_test (register_number r == 10) refl e
  where
    by_test : (b : Bool) → (register_number r == 10) ≡ b → cond b None (Some (with_register s (register_number r) (Some v))) ≡ Some t → is_frame_pointer r ≡ false
    by_test true eb h = absurd (none-some _ h)
    by_test false eb h = eb

set_plain : (xs : List (Option Value)) (k : ℕ) (v : Option Value) → IsPlain v → ((r : ℕ) → (r ≡ 10 → ⊥) → IsPlain (get_or xs r None)) → (r : ℕ) → (r ≡ 10 → ⊥) → IsPlain (get_or (set xs k v) r None)
set_plain xs k v hv h r other = elim (cases_eq r k) [
  | inl same ↦ elim (cases_lt k (length xs)) [
    | inl lt ↦ subst (λ r. IsPlain (get_or (set xs k v) r None)) (sym same) (subst IsPlain (sym (get_or-set_same xs k v None lt)) hv)
    | inr le ↦ subst (λ ys. IsPlain (get_or ys r None)) (sym (beyond xs k v le)) (h r other)
  ]
  | inr differ ↦ subst IsPlain (sym (get_or-set_other xs k r v None differ)) (h r other)
]
  where
    beyond : (xs : List (Option Value)) (k : ℕ) (v : Option Value) → length xs ≤ k → set xs k v ≡ xs
    beyond [] k v le = refl
    beyond (x ∷ xs) zero v le = absurd (omega arith)
    beyond (x ∷ xs) (suc k) v le = ap (λ ys. x ∷ ys) (beyond xs k v (omega arith))

put_alone : (r : Reg) (v : Value) (s t : State) → put r v s ≡ Some t → IsPlain (Some v) → AreAlone s → AreAlone t
put_alone r v s t e plain all = by_test (register_number r == 10) e
  where
    by_test : (b : Bool) → cond b None (Some (with_register s (register_number r) (Some v))) ≡ Some t → AreAlone t
    by_test true h = absurd (none-some _ h)
    by_test false h = subst AreAlone (same_Some _ _ h) (record { registers = set_plain s.top.registers (register_number r) (Some v) plain all.0.registers; cells = all.0.cells }, all.1)

fetched_alone : (o : Option Reg) (x : ℕ) (s t : State) → fetched o x s ≡ Some t → AreAlone s → AreAlone t
fetched_alone None x s t e all = subst AreAlone (same_Some _ _ e) all
fetched_alone (Some r) x s t e all = put_alone r (Number x) s t e tt all

-- ---- values

plain_values : (width : Width) (op : AluOp) (a b v : Value) → alu_of_values width op a b ≡ Some v → IsPlain (Some a) → IsPlain (Some b) → IsPlain (Some v)
plain_values width op (Number a) (Number b) v e ha hb = subst (λ v. IsPlain (Some v)) (same_Some _ v e) tt
plain_values W64 Add (Pointer region off) (Number b) v e ha hb = subst (λ v. IsPlain (Some v)) (same_Some _ v e) ha
plain_values W64 Add (Number a) (Pointer region off) v e ha hb = subst (λ v. IsPlain (Some v)) (same_Some _ v e) hb
plain_values W64 Sub (Pointer region off) (Number b) v e ha hb = subst (λ v. IsPlain (Some v)) (same_Some _ v e) ha
plain_values W64 Sub (Pointer region off) (Pointer region' off') v e ha hb = let c = cond_option _ _ v e in subst (λ v. IsPlain (Some v)) (same_Some _ v c.1) tt
plain_values width op a b v e ha hb = absurd (none-some _ e)

plain_moved : (width : Width) (b v : Value) → moved width b ≡ Some v → IsPlain (Some b) → IsPlain (Some v)
plain_moved W64 b v e h = subst (λ v. IsPlain (Some v)) (same_Some b v e) h
plain_moved W32 (Number b) v e h = subst (λ v. IsPlain (Some v)) (same_Some _ v e) tt
plain_moved W32 (Pointer region off) v e h = absurd (none-some _ e)

plain_result : (width : Width) (op : AluOp) (a : Option Value) (b v : Value) → alu_result width op a b ≡ Some v → IsPlain a → IsPlain (Some b) → IsPlain (Some v)
plain_result width Mov a b v e ha hb = plain_moved width b v e hb
plain_result width op None b v e ha hb = absurd (none-some _ e)
plain_result width op (Some a) b v e ha hb = plain_values width op a b v e ha hb

plain_operand : (s : State) (op : AluOp) (width : Width) (dst : Reg) (src : Operand) (b : Value) → AreAlone s → hands_frame (Alu op width dst src) ≡ false → operand s src ≡ Some b → IsPlain (Some b)
plain_operand s op width dst (Imm imm) b all e eb = subst (λ v. IsPlain (Some v)) (same_Some _ b eb) tt
plain_operand s op width dst (FromReg r) b all e eb = plain_some s r b all e eb

-- ---- memory

plain_stack : (s : State) (n j : ℕ) → AreAlone s → IsPlainCell (get_or (stack_of s n) j None)
plain_stack s n j all = (all_get IsPlainFrame (frames s) (depth s - n) s.top all.0 all).cells j

plain_pointer : (cell : Option Cell) (v : Value) → pointer_in cell ≡ Some v → IsPlainCell cell → IsPlain (Some v)
plain_pointer None v e h = absurd (none-some _ e)
plain_pointer (Some (Byte b)) v e h = absurd (none-some _ e)
plain_pointer (Some (Part i region off)) v e h = subst (λ v. IsPlain (Some v)) (same_Some _ v e) h

plain_at : (s : State) (l : Location) (v : Value) → pointer_at s l ≡ Some v → AreAlone s → IsPlain (Some v)
plain_at s (InContext i) v e all = absurd (none-some _ e)
plain_at s (InFrame n i) v e all = let c = cond_option _ _ v e in plain_pointer (get_or (stack_of s n) i None) v c.1 (plain_stack s n i all)

plain_number : (o : Option ℕ) (v : Value) → option_map Number o ≡ Some v → IsPlain (Some v)
plain_number o v e = let h = option_map_some Number o v e in subst (λ v. IsPlain (Some v)) h.2 tt

plain_load : (order : Order) (s : State) (size : Size) (l : Location) (v : Value) → load order s size l ≡ Some v → AreAlone s → IsPlain (Some v)
plain_load order s DW l v e all = by_pointer (pointer_at s l) refl e
  where
    by_pointer : (o : Option Value) → pointer_at s l ≡ o → option_or o (option_map Number (number_at order s 8 l)) ≡ Some v → IsPlain (Some v)
    by_pointer None eo h = plain_number (number_at order s 8 l) v h
    by_pointer (Some u) eo h = plain_at s l v (eo ∙ h) all
plain_load order s size l v e all = plain_number (number_at order s (byte_count size) l) v e

set_all : (P : StackFrame → Type 0) (fs : List StackFrame) (k : ℕ) (frame : StackFrame) → P frame → AllByRecursion P fs → AllByRecursion P (set fs k frame)
set_all P [] k frame h all = tt
set_all P (x ∷ fs) zero frame h all = (h, all.1)
set_all P (x ∷ fs) (suc k) frame h all = (all.0, set_all P fs k frame h all.1)

framed_alone : (s : State) (n : ℕ) (stack : List (Option Cell)) → ((j : ℕ) → IsPlainCell (get_or stack j None)) → AreAlone s → AreAlone (with_frame s n (with_stack_in (frame_at s n) stack))
framed_alone s n stack cells all = cond_both (n == depth s) (with_top s frame) (record { top = s.top; waiting = set s.waiting (depth s - n - 1) frame; context = s.context }) AreAlone
    (λ e. (here, all.1))
    (λ e. (all.0, set_all IsPlainFrame s.waiting (depth s - n - 1) frame here all.1))
  where
    frame : StackFrame
    frame = with_stack_in (frame_at s n) stack

    here : IsPlainFrame frame
    here = record { registers = (all_get IsPlainFrame (frames s) (depth s - n) s.top all.0 all).registers; cells = cells }

each_plain : (g : ℕ → Option Cell → Option Cell) (cells : List (Option Cell)) → ((j : ℕ) → IsPlainCell (get_or cells j None)) → ((j : ℕ) (c : Option Cell) → IsPlainCell c → IsPlainCell (g j c)) → (j first : ℕ) → IsPlainCell (get_or (each_cell g first cells) j None)
each_plain g [] h each j first = tt
each_plain g (c ∷ cells) h each zero first = each first c (h 0)
each_plain g (c ∷ cells) h each (suc j) first = each_plain g cells (λ j. h (suc j)) each j (suc first)

without_plain : (c : Option Cell) → IsPlainCell c → IsPlainCell (without_part c)
without_plain None h = tt
without_plain (Some (Byte b)) h = tt
without_plain (Some (Part i region off)) h = tt

bytes_plain : (bytes : List ℕ) (i j : ℕ) (c : Option Cell) → IsPlainCell c → IsPlainCell (cell_after bytes i j c)
bytes_plain bytes i j c h =
    cond_both (is_within i (i + length bytes) j) (Some (Byte (slice_index bytes (j - i)))) (cond (is_within (i / 8) ((i + length bytes + 7) / 8) (j / 8)) (without_part c) c) IsPlainCell
    (λ e. tt) (λ e. cond_both (is_within (i / 8) ((i + length bytes + 7) / 8) (j / 8)) (without_part c) c IsPlainCell (λ e. without_plain c h) (λ e. h))

parts_plain : (region : Region) (off : ℤ) (i j : ℕ) (c : Option Cell) → IsElsewhere region → IsPlainCell c → IsPlainCell (part_after region off i j c)
parts_plain region off i j c elsewhere h = cond_both (is_within i (i + 8) j) (Some (Part (j - i) region off)) c IsPlainCell (λ e. elsewhere) (λ e. h)

number_alone : (order : Order) (k x : ℕ) (l : Location) (s t : State) → store_number order k x l s ≡ Some t → AreAlone s → AreAlone t
unfolding store_number with_bytes
number_alone order k x (InContext i) s t e all = absurd (none-some _ e)
number_alone order k x (InFrame n i) s t e all =
    subst AreAlone (same_Some _ _ e) (framed_alone s n (with_bytes (bytes_of order k x) i (stack_of s n)) (λ j. each_plain (cell_after (bytes_of order k x) i) (stack_of s n) (λ j. plain_stack s n j all) (λ j c h. bytes_plain (bytes_of order k x) i j c h) j 0) all)

store_alone : (order : Order) (size : Size) (v : Value) (l : Location) (s t : State) → store order size v l s ≡ Some t → IsPlain (Some v) → AreAlone s → AreAlone t
unfolding store_pointer with_parts
store_alone order size (Number x) l s t e plain all = number_alone order (byte_count size) x l s t e all
store_alone order DW (Pointer region off) (InContext i) s t e plain all = absurd (none-some _ e)
store_alone order DW (Pointer region off) (InFrame n i) s t e plain all =
    let c = cond_option _ _ t e in
    subst AreAlone (same_Some _ _ c.1) (framed_alone s n (with_parts region off i (stack_of s n)) (λ j. each_plain (part_after region off i) (stack_of s n) (λ j. plain_stack s n j all) (λ j c h. parts_plain region off i j c plain h) j 0) all)
store_alone order size (Pointer region off) l s t e plain all = absurd (none-some _ e)

jump_alone : (s : State) (off : ℤ) (t : State) → jump s off ≡ Some t → AreAlone s → AreAlone t
jump_alone s off t e all = let h = option_map_some (λ slot. at_slot slot s) (target s.top.slot off) t e in subst AreAlone h.2 (at_slot_alone s h.0 all)

-- ---- instructions

abbrev pub is_inner : Insn → Bool
is_inner (CallLocal off) = false
is_inner Exit = false
is_inner i = true

pub does_alone : (order : Order) (i : Insn) (s t : State) → is_inner i ≡ true → hands_frame i ≡ false → does order i s ≡ Some t → AreAlone s → AreAlone t
unfolding does
does_alone order (Alu op width dst src) s t inner e d all =
    option_and_then_some _ (operand s src) t d (λ b eb d. option_and_then_some _ (alu_result width op (register s dst) b) t d (λ v ev d.
    let other = put_other dst v (next (Alu op width dst src) s) t d in
    put_alone dst v (next (Alu op width dst src) s) t d (plain_result width op (register s dst) b v ev (plain_register s dst all other) (plain_operand s op width dst src b all e eb)) (at_slot_alone s _ all)))
does_alone order (Neg width dst) s t inner e d all = option_and_then_some _ (number_of_register s dst) t d (λ a ea d. put_alone dst _ _ t d tt (at_slot_alone s _ all))
does_alone order (MovSx width bits dst src) s t inner e d all = option_and_then_some _ (number_of_register s src) t d (λ b eb d. put_alone dst _ _ t d tt (at_slot_alone s _ all))
does_alone order (End kind bits dst) s t inner e d all = option_and_then_some _ (number_of_register s dst) t d (λ a ea d. put_alone dst _ _ t d tt (at_slot_alone s _ all))
does_alone order (LoadImm64 dst value) s t inner e d all = put_alone dst (Number value) _ t d tt (at_slot_alone s _ all)
does_alone order (Load size dst src off) s t inner e d all =
    option_and_then_some _ (register s src) t d (λ base eb d. option_and_then_some _ (location_of s (byte_count size) off base) t d (λ l el d. option_and_then_some _ (load order s size l) t d (λ v ev d.
    put_alone dst v _ t d (plain_load order s size l v ev all) (at_slot_alone s _ all))))
does_alone order (LoadSx size dst src off) s t inner e d all =
    option_and_then_some _ (register s src) t d (λ base eb d. option_and_then_some _ (location_of s (byte_count size) off base) t d (λ l el d. option_and_then_some _ (load_extended order s size l) t d (λ v ev d.
    let h = option_map_some _ (number_at order s (byte_count size) l) v ev in
    put_alone dst v _ t d (subst (λ v. IsPlain (Some v)) h.2 tt) (at_slot_alone s _ all))))
does_alone order (Store size dst off src) s t inner e d all =
    option_and_then_some _ (register s dst) t d (λ base eb d. option_and_then_some _ (register s src) t d (λ v ev d. option_and_then_some _ (location_of s (byte_count size) off base) t d (λ l el d.
    store_alone order size v l _ t d (plain_some s src v all e ev) (at_slot_alone s _ all))))
does_alone order (StoreImm size dst off imm) s t inner e d all =
    option_and_then_some _ (register s dst) t d (λ base eb d. option_and_then_some _ (location_of s (byte_count size) off base) t d (λ l el d. store_alone order size (Number (extended imm)) l _ t d tt (at_slot_alone s _ all)))
does_alone order (Atomic wide op dst off src) s t inner e d all =
    let size : Size = word_size wide in
    option_and_then_some _ (register s dst) t d (λ base eb d. option_and_then_some _ (number_of_register s src) t d (λ x ex d. option_and_then_some _ (location_of s (byte_count size) off base) t d (λ l el d. option_and_then_some _ (number_at order s (byte_count size) l) t d (λ old eo d. option_and_then_some _ (atomic_result op size old x (number_of_register s R0)) t d (λ new en d. option_and_then_some _ (store_number order (byte_count size) new l (next (Atomic wide op dst off src) s)) t d (λ middle em d.
    fetched_alone (fetch_register op src) old middle t d (number_alone order (byte_count size) new l (next (Atomic wide op dst off src) s) middle em (at_slot_alone s _ all))))))))
does_alone order (Ja off) s t inner e d all = jump_alone s off t d all
does_alone order (JaLong off) s t inner e d all = jump_alone s off t d all
does_alone order (JumpIf test width dst src off) s t inner e d all =
    option_and_then_some _ (register s dst) t d (λ a ea d. option_and_then_some _ (operand s src) t d (λ b eb d. option_and_then_some _ (test_of_values width test a b) t d (λ taken et d. by_way taken d)))
  where
    by_way : (taken : Bool) → cond taken (jump s off) (Some (next (JumpIf test width dst src off) s)) ≡ Some t → AreAlone t
    by_way true h = jump_alone s off t h all
    by_way false h = subst AreAlone (same_Some _ _ h) (at_slot_alone s _ all)
does_alone order (CallLocal off) s t inner e d all = absurd (false≢true inner)
does_alone order Exit s t inner e d all = absurd (false≢true inner)

-- ---- calls and returns

-- what is handed: r1 to r5
handed_plain : (xs : List (Option Value)) → ((r : ℕ) → (r ≡ 10 → ⊥) → IsPlain (get_or xs r None)) → (k : ℕ) → IsPlain (get_or (take 5 (drop 1 xs)) k None)
handed_plain xs h k = by_order (cases_lt k 5)
  where
    later : (ys : List (Option Value)) (j : ℕ) → get_or (drop 1 ys) j None ≡ get_or ys (suc j) None
    later [] j = refl
    later (y ∷ ys) j = refl

    past : (n : ℕ) (ys : List (Option Value)) (j : ℕ) → n ≤ j → get_or (take n ys) j None ≡ None
    past zero ys j le = refl
    past (suc n) [] j le = refl
    past (suc n) (y ∷ ys) zero le = absurd (omega arith)
    past (suc n) (y ∷ ys) (suc j) le = past n ys j (omega arith)

    by_order : (k < 5) ⊎ (5 ≤ k) → IsPlain (get_or (take 5 (drop 1 xs)) k None)
    by_order (inl less) = subst IsPlain (sym (get_or-take 5 (drop 1 xs) k None less ∙ later xs k)) (h (suc k) (λ e. absurd (omega arith)))
    by_order (inr more) = subst IsPlain (sym (past 5 (drop 1 xs) k more)) tt

entered_plain : (args : List (Option Value)) (end : Option Value) → length args ≡ 5 → ((k : ℕ) → IsPlain (get_or args k None)) → (r : ℕ) → (r ≡ 10 → ⊥) → IsPlain (get_or (None ∷ args ++ replicate 4 None ++ end ∷ []) r None)
entered_plain (a ∷ b ∷ c ∷ d ∷ e ∷ []) end l h zero other = tt
entered_plain (a ∷ b ∷ c ∷ d ∷ e ∷ []) end l h (suc zero) other = h 0
entered_plain (a ∷ b ∷ c ∷ d ∷ e ∷ []) end l h (suc (suc zero)) other = h 1
entered_plain (a ∷ b ∷ c ∷ d ∷ e ∷ []) end l h (suc (suc (suc zero))) other = h 2
entered_plain (a ∷ b ∷ c ∷ d ∷ e ∷ []) end l h (suc (suc (suc (suc zero)))) other = h 3
entered_plain (a ∷ b ∷ c ∷ d ∷ e ∷ []) end l h (suc (suc (suc (suc (suc zero))))) other = h 4
entered_plain (a ∷ b ∷ c ∷ d ∷ e ∷ []) end l h (suc (suc (suc (suc (suc (suc zero)))))) other = tt
entered_plain (a ∷ b ∷ c ∷ d ∷ e ∷ []) end l h (suc (suc (suc (suc (suc (suc (suc zero))))))) other = tt
entered_plain (a ∷ b ∷ c ∷ d ∷ e ∷ []) end l h (suc (suc (suc (suc (suc (suc (suc (suc zero)))))))) other = tt
entered_plain (a ∷ b ∷ c ∷ d ∷ e ∷ []) end l h (suc (suc (suc (suc (suc (suc (suc (suc (suc zero))))))))) other = tt
entered_plain (a ∷ b ∷ c ∷ d ∷ e ∷ []) end l h (suc (suc (suc (suc (suc (suc (suc (suc (suc (suc zero)))))))))) other = absurd (other refl)
entered_plain (a ∷ b ∷ c ∷ d ∷ e ∷ []) end l h (suc (suc (suc (suc (suc (suc (suc (suc (suc (suc (suc r))))))))))) other = tt
entered_plain [] end l h r other = absurd (omega arith)
entered_plain (a ∷ []) end l h r other = absurd (omega arith)
entered_plain (a ∷ b ∷ []) end l h r other = absurd (omega arith)
entered_plain (a ∷ b ∷ c ∷ []) end l h r other = absurd (omega arith)
entered_plain (a ∷ b ∷ c ∷ d ∷ []) end l h r other = absurd (omega arith)
entered_plain (a ∷ b ∷ c ∷ d ∷ e ∷ x ∷ xs) end l h r other = absurd (omega arith)

-- a caller keeps r6 to r10
saved_plain : (first : Option Value) (xs : List (Option Value)) → IsPlain first → ((r : ℕ) → (r ≡ 10 → ⊥) → IsPlain (get_or xs r None)) → (r : ℕ) → (r ≡ 10 → ⊥) → IsPlain (get_or (first ∷ drop 1 (saved xs)) r None)
saved_plain first xs hf h zero other = hf
saved_plain first xs hf h (suc zero) other = tt
saved_plain first xs hf h (suc (suc zero)) other = tt
saved_plain first xs hf h (suc (suc (suc zero))) other = tt
saved_plain first xs hf h (suc (suc (suc (suc zero)))) other = tt
saved_plain first xs hf h (suc (suc (suc (suc (suc zero))))) other = tt
saved_plain first xs hf h (suc (suc (suc (suc (suc (suc k)))))) other =
    let six : 6 + k ≡ suc (suc (suc (suc (suc (suc k))))) = omega arith in
    subst IsPlain (sym (get_or-drop 6 xs k None)) (h (6 + k) (λ e. other (sym six ∙ e)))

called_alone : (off : ℤ) (s t : State) → IsState s → call s off ≡ Some t → AreAlone s → AreAlone t
called_alone off s t is e all =
    let c = cond_option (ltb (depth s + 1) max_frames) (option_map (entered s) (target s.top.slot off)) t e in
    let k = option_map_some (entered s) (target s.top.slot off) t c.1 in
    let args : List (Option Value) = take 5 (drop 1 s.top.registers) in
    let eleven : length s.top.registers ≡ 11 = is.each_frame.0.eleven in
    let five : length args ≡ 5 = length-take-le 5 (drop 1 s.top.registers) (rw (length-drop 1 s.top.registers, eleven) (omega arith)) in
    subst AreAlone k.2 (
      record { registers = entered_plain args (Some (Pointer (FrameAt (depth s + 1)) (pos 0))) five (handed_plain s.top.registers all.0.registers); cells = λ j. subst IsPlainCell (sym (all_none frame_bytes j)) tt },
      (record { registers = saved_plain None s.top.registers tt all.0.registers; cells = all.0.cells }, all.1),
    )

pub call_alone : (order : Order) (off : ℤ) (s t : State) → IsState s → does order (CallLocal off) s ≡ Some t → AreAlone s → AreAlone t
unfolding does
call_alone order off s t is e all = called_alone off s t is e all

pub exit_alone : (order : Order) (s t : State) → does order Exit s ≡ Some t → AreAlone s → AreAlone t
unfolding does
exit_alone order s t e all = option_and_then_some _ (number_of_register s R0) t e (λ v ev e1.
    let h = left_is s.waiting v s.context t e1 in
    let rest : AllByRecursion IsPlainFrame (h.0 ∷ h.1) = subst (λ ws. AllByRecursion IsPlainFrame ws) h.2 all.1 in
    subst AreAlone h.3 (record { registers = saved_plain (Some (Number v)) h.0.registers tt rest.0.registers; cells = rest.0.cells }, rest.1))

-- an access by another register than r10 goes to the context
pub goes_to_context : (s : State) (k : ℕ) (off : ℤ) (r : Reg) (base : Value) (l : Location) → AreAlone s → is_frame_pointer r ≡ false → register s r ≡ Some base → location_of s k off base ≡ Some l → (i : ℕ) × (l ≡ InContext i)
goes_to_context s k off r (Number n) l all e eb el = absurd (none-some _ el)
goes_to_context s k off r (Pointer Context at) l all e eb el = let h = option_map_some InContext (inside k (length s.context) (at +ℤ off)) l el in (h.0, sym h.2)
goes_to_context s k off r (Pointer (FrameAt n) at) l all e eb el = absurd (plain_some s r (Pointer (FrameAt n) at) all e eb)
