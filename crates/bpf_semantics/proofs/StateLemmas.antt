-- States: what stands where, and what an instruction keeps.
use Rattle.std.proofs.Common.{◌≡◌, suc, zero, List, [], ◌∷◌, Option, Some, None, refl, ap, subst, length, ◌<◌, ◌≤◌, ◌+◌, ◌-◌, ◌%◌, ℕ, arith, ◌∙◌, ◌/◌, inl, inr, ◌⊎◌, ◌*◌}
use Rattle.std.specs.Prelude.{ℤ, pos, negsuc, Bool, true, false, get_or, drop, cond, option_map, leb, ltb, replicate}
use Rattle.std.proofs.lemmas.Option.{none-some, same_Some, option_and_then_some, cond_some}
use Rattle.std.proofs.lemmas.Bool.{leb-true, and_cases, ltb-false, leb-false}
use Rattle.std.specs.List.{AllByRecursion}
use Rattle.bpf_semantics.specs.State.{Cell, State, IsState, IsFrame, frames, frame_at, depth, frame_bytes, StackFrame, register, at_slot, number_in, number_of_register, FitsMachine, IsNumberCell}
use Rattle.bpf_semantics.specs.State.Cell.{Byte, Part}
use Rattle.bpf_semantics.specs.Memory.{Location, inside, each_cell, is_within, pointer_in}
use Rattle.bpf_semantics.specs.Memory.Location.{InContext, InFrame}
use Rattle.bpf_semantics.specs.declared.value.Value.{Value}
use Rattle.bpf_semantics.specs.declared.value.Value.TheVariants.{Number, Pointer}
use Rattle.bpf_insn.specs.Instruction.{register_number, slot_count, layout, insn_in}
use Rattle.bpf_insn.specs.declared.instruction.Reg.{Reg}
use Rattle.bpf_semantics.specs.Step.{next, operand, left, saved, result_of_exit}
use Rattle.bpf_insn.specs.declared.instruction.Operand.{Operand}
use Rattle.bpf_insn.specs.declared.instruction.Operand.TheVariants.{Imm, Reg as FromReg}
use Rattle.bpf_insn.specs.declared.instruction.Insn.{Insn}
use Rattle.bpf_insn.specs.declared.instruction.Insn.TheVariants.{LoadImm64, Exit}
use Rattle.std.specs.Option.{option_or}
use Rattle.bpf_insn.specs.Image.{HasEncoding, AllHaveEncoding}
use Rattle.bpf_semantics.proofs.NumberLemmas.{modulo_below}

-- k bytes at the place lie inside the context or a live frame
abbrev pub IsGood : State → ℕ → Location → Type 0
IsGood s k (InContext i) = i + k ≤ length s.context
IsGood s k (InFrame n i) = (n ≤ depth s) × (i + k ≤ frame_bytes)

pub option_map_some : {A B : Type 0} (f : A → B) (o : Option A) (y : B) → option_map f o ≡ Some y → (x : A) × (o ≡ Some x) × (f x ≡ y)
option_map_some f None y e = absurd (none-some _ e)
option_map_some f (Some x) y e = (x, refl, same_Some _ _ e)

pub inside_is : (k len : ℕ) (z : ℤ) (i : ℕ) → inside k len z ≡ Some i → (z ≡ pos i) × (i + k ≤ len)
inside_is k len (pos j) i e = let h = cond_some _ _ _ e in (ap pos h.1, subst (λ x. x + k ≤ len) h.1 (leb-true (j + k) len h.0))
inside_is k len (negsuc j) i e = absurd (none-some _ e)

pub cond_option : {A : Type 0} (b : Bool) (o : Option A) (y : A) → cond b o None ≡ Some y → (b ≡ true) × (o ≡ Some y)
cond_option true o y e = (refl, e)
cond_option false o y e = absurd (none-some _ e)

pub all_get : {X : Type 0} (P : X → Type 0) (xs : List X) (k : ℕ) (d : X) → P d → AllByRecursion P xs → P (get_or xs k d)
all_get P [] k d hd h = hd
all_get P (x ∷ xs) zero d hd h = h.0
all_get P (x ∷ xs) (suc k) d hd h = all_get P xs k d hd h.1

-- each frame of a state
pub frame_is : {s : State} → IsState s → (n : ℕ) → IsFrame (frame_at s n)
frame_is {s = s} iss n = all_get IsFrame (frames s) (depth s - n) s.top iss.each_frame.0 iss.each_frame

pub get-each_cell : (g : ℕ → Option Cell → Option Cell) (first : ℕ) (cells : List (Option Cell)) (j : ℕ) → j < length cells → get_or (each_cell g first cells) j None ≡ g (first + j) (get_or cells j None)
get-each_cell g first [] j h = absurd (omega arith)
get-each_cell g first (cell ∷ cells) zero h = let e : first + 0 ≡ first = omega arith in rw e refl
get-each_cell g first (cell ∷ cells) (suc j) h = let e : first + suc j ≡ suc first + j = omega arith in rw e (get-each_cell g (suc first) cells j (omega arith))

pub length-each_cell : (g : ℕ → Option Cell → Option Cell) (first : ℕ) (cells : List (Option Cell)) → length (each_cell g first cells) ≡ length cells
length-each_cell g first [] = refl
length-each_cell g first (cell ∷ cells) = ap suc (length-each_cell g (suc first) cells)

pub get_each : (g : ℕ → Option Cell → Option Cell) (cells : List (Option Cell)) (j : ℕ) → j < length cells → get_or (each_cell g 0 cells) j None ≡ g j (get_or cells j None)
get_each g cells j h = let e : 0 + j ≡ j = omega arith in subst (λ x. get_or (each_cell g 0 cells) j None ≡ g x (get_or cells j None)) e (get-each_cell g 0 cells j h)

pub without_is : (low high j : ℕ) → is_within low high j ≡ false → (j < low) ⊎ (high ≤ j)
without_is low high j e = elim (and_cases (leb low j) (ltb j high) e) [ inl x ↦ inl (leb-false low j x) | inr x ↦ inr (ltb-false j high x) ]

pub number_is : (s : State) (r : Reg) (n : ℕ) → number_of_register s r ≡ Some n → register s r ≡ Some (Number n)
number_is s r n e = option_and_then_some number_in (register s r) n e (λ v ev e2. ev ∙ ap Some (value_is v n e2))
  where
    value_is : (v : Value) (n : ℕ) → number_in v ≡ Some n → v ≡ Number n
    value_is (Number m) n e = ap Number (same_Some _ _ e)
    value_is (Pointer region off) n e = absurd (none-some _ e)

pub value_fits : {s : State} → IsState s → (r : Reg) (v : Value) → register s r ≡ Some v → FitsMachine (Some v)
value_fits iss r v e = subst FitsMachine e (iss.each_frame.0.values (register_number r))

pub operand_value_fits : {s : State} → IsState s → (src : Operand) (b : Value) → operand s src ≡ Some b → FitsMachine (Some b)
operand_value_fits iss (Imm imm) b e = subst FitsMachine e (modulo_below imm)
operand_value_fits iss (FromReg r) b e = value_fits iss r b e

-- a pointer that was spilled: its slot has all its parts
pub slot_of : (i : ℕ) → i % 8 ≡ 0 → 8 * (i / 8) + 0 ≡ i
slot_of i e = omega arith

pub part_is_no_number : (c : Option Cell) (v : Value) → pointer_in c ≡ Some v → IsNumberCell c → ⊥
part_is_no_number None v e h = none-some _ e
part_is_no_number (Some (Byte b)) v e h = none-some _ e
part_is_no_number (Some (Part j region off)) v e h = h

pub or_cases_of : (P : Value → Type 0) (o p : Option Value) (v : Value) → option_or o p ≡ Some v → (o ≡ Some v → P v) → (p ≡ Some v → P v) → P v
or_cases_of P None p v e f g = g e
or_cases_of P (Some x) p v e f g = f e

pub state_at : {s : State} → IsState s → (n : ℕ) → IsState (at_slot n s)
state_at iss n = record { few_frames = iss.few_frames; each_frame = (record { eleven = iss.each_frame.0.eleven; values = iss.each_frame.0.values; cells = iss.each_frame.0.cells; whole = iss.each_frame.0.whole }, iss.each_frame.1); bytes = iss.bytes }

pub good_at : (s : State) (n k : ℕ) (pl : Location) → IsGood s k pl → IsGood (at_slot n s) k pl
good_at s n k (InContext i) h = h
good_at s n k (InFrame m i) h = h

pub good_next : (s : State) (i : Insn) (k : ℕ) (pl : Location) → IsGood s k pl → IsGood (next i s) k pl
good_next s i k pl h = good_at s (s.top.slot + slot_count i) k pl h

pub all_none : (k j : ℕ) → get_or {A = Option Cell} (replicate k None) j None ≡ None
all_none zero j = refl
all_none (suc k) zero = refl
all_none (suc k) (suc j) = all_none k j

pub left_is : (ws : List StackFrame) (v : ℕ) (context : List ℕ) (t : State) → left ws v context ≡ Some t → (caller : StackFrame) × (rest : List StackFrame) × (ws ≡ caller ∷ rest) × ((record { top = record { slot = caller.slot; registers = Some (Number v) ∷ drop 1 (saved caller.registers); stack = caller.stack }; waiting = rest; context = context }) ≡ t)
left_is [] v context t e = absurd (none-some _ e)
left_is (caller ∷ rest) v context t e = (caller, rest, refl, same_Some _ _ e)

pub encoding_at : (is : List Insn) → AllHaveEncoding is → (slot : ℕ) (i : Insn) → insn_in (layout is) slot ≡ Some i → HasEncoding i
encoding_at [] h slot i e = absurd (none-some _ e)
encoding_at (LoadImm64 dst value ∷ is) h zero i e = subst HasEncoding (same_Some _ _ e) h.0
encoding_at (LoadImm64 dst value ∷ is) h (suc zero) i e = absurd (none-some _ e)
encoding_at (LoadImm64 dst value ∷ is) h (suc (suc slot)) i e = encoding_at is h.1 slot i e
encoding_at (i ∷ is) h zero j e = subst HasEncoding (same_Some _ _ e) h.0
encoding_at (i ∷ is) h (suc slot) j e = encoding_at is h.1 slot j e

pub exit_is : (ws : List StackFrame) (r0 : Option ℕ) (i : Insn) (v : ℕ) → result_of_exit ws r0 i ≡ Some v → (ws ≡ []) × (i ≡ Exit) × (r0 ≡ Some v)
exit_is [] r0 Exit v e = (refl, refl, e)
exit_is ws r0 i v e = absurd (none-some _ e)
