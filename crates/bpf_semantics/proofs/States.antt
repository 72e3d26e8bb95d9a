-- States inside of a block: registers, frames, jumps, calls, ends.
use Rattle.std.proofs.Common.{◌≡◌, ℕ, ◌+◌, ◌-◌, ◌==◌, Bool, true, false, List, [], ◌∷◌, ◌++◌, Option, Some, None, get_or, take, drop, replicate, refl, sym, ap, ap₂, ◌∙◌}
use Rattle.std.specs.Prelude.{ℤ, pos, nat_lt, map, option_and_then, option_map, slice_set, if◌then◌else◌}
use Rattle.std.proofs.lemmas.List.{length-map, map-set, map-append, take-map, drop-map}
use Rattle.std.proofs.Math.ListN.{get_or-map}
use Rattle.bpf_insn.specs.Instruction.{register_number, target}
use Rattle.bpf_insn.specs.declared.instruction.Reg.{Reg}
use Rattle.bpf_insn.specs.declared.instruction.Operand.{Operand}
use Rattle.bpf_insn.specs.declared.instruction.Operand.TheVariants.{Imm, Reg as FromReg}
use Rattle.bpf_semantics.specs.State.{Cell, StackFrame, State, max_frames, frame_bytes, depth, frames, frame_at, register, number_in, number_of_register, with_top, with_register, put, at_slot, empty_stack}
use Rattle.bpf_semantics.specs.Memory.{stack_of, with_stack_in, with_frame, with_stack}
use Rattle.bpf_semantics.specs.Step.{operand, fetched, jump, saved, entered, call, left}
use Rattle.bpf_semantics.specs.declared.value.Value.{Value}
use Rattle.bpf_semantics.specs.declared.value.Value.TheVariants.{Number, Pointer}
use Rattle.bpf_semantics.specs.declared.value.Region.TheVariants.{Frame as FrameAt}
use Rattle.bpf_semantics.specs.Blocks.{inside_value, inside_cell, inside_frame, inside}
use Rattle.bpf_semantics.proofs.Values.{number_inside}
use Rattle.bpf_semantics.proofs.Cells.{moved_cell, empty_inside}

abbrev pub moved_value : Option Value → Option Value
moved_value value = option_map inside_value value

module _ (block : List ℕ) where
  -- ---- registers

  pub register_inside : (s : State) (r : Reg) → register (inside block s) r ≡ moved_value (register s r)
  register_inside s r = get_or-map moved_value s.top.registers (register_number r) None

  pub number_register_inside : (s : State) (r : Reg) → number_of_register (inside block s) r ≡ number_of_register s r
  number_register_inside s r = ap (option_and_then number_in) (register_inside s r) ∙ number_inside (register s r)

  pub operand_inside : (s : State) (src : Operand) → operand (inside block s) src ≡ moved_value (operand s src)
  operand_inside s (Imm imm) = refl
  operand_inside s (FromReg r) = register_inside s r

  pub put_inside : (r : Reg) (v : Value) (s : State) → put r (inside_value v) (inside block s) ≡ option_map (inside block) (put r v s)
  put_inside r v s = by_cases (register_number r == 10)
    where
      by_cases : (b : Bool) → (if b then None else Some (with_register (inside block s) (register_number r) (Some (inside_value v)))) ≡ option_map (inside block) (if b then None else Some (with_register s (register_number r) (Some v)))
      by_cases true = refl
      by_cases false =
          ap (λ (registers : List (Option Value)). Some (record { top = record { slot = s.top.slot; registers = registers; stack = map moved_cell s.top.stack }; waiting = map inside_frame s.waiting; context = block }))
          (sym (map-set moved_value s.top.registers (register_number r) (Some v)))

  pub fetched_inside : (o : Option Reg) (old : ℕ) (s : State) → fetched o old (inside block s) ≡ option_map (inside block) (fetched o old s)
  fetched_inside None old s = refl
  fetched_inside (Some r) old s = put_inside r (Number old) s

  -- ---- frames

  pub depth_inside : (s : State) → depth (inside block s) ≡ depth s
  depth_inside s = length-map s.waiting inside_frame

  frame_inside : (s : State) (n : ℕ) → frame_at (inside block s) n ≡ inside_frame (frame_at s n)
  frame_inside s n = ap (λ d. get_or (map inside_frame (frames s)) (d - n) (inside_frame s.top)) (depth_inside s) ∙ get_or-map inside_frame (frames s) (depth s - n) s.top

  pub stack_inside : (s : State) (n : ℕ) → stack_of (inside block s) n ≡ map moved_cell (stack_of s n)
  stack_inside s n = ap (λ (frame : StackFrame). frame.stack) (frame_inside s n)

  with_frame_inside : (s : State) (n : ℕ) (frame : StackFrame) → with_frame (inside block s) n (inside_frame frame) ≡ inside block (with_frame s n frame)
  with_frame_inside s n frame =
      ap (λ d. if n == d then with_top (inside block s) (inside_frame frame) else record { top = inside_frame s.top; waiting = slice_set (map inside_frame s.waiting) (d - n - 1) (inside_frame frame); context = block }) (depth_inside s)
      ∙ by_cases (n == depth s)
    where
      by_cases : (b : Bool) → (if b then with_top (inside block s) (inside_frame frame) else record { top = inside_frame s.top; waiting = slice_set (map inside_frame s.waiting) (depth s - n - 1) (inside_frame frame); context = block })
          ≡ inside block (if b then with_top s frame else record { top = s.top; waiting = slice_set s.waiting (depth s - n - 1) frame; context = s.context })
      by_cases true = refl
      by_cases false = ap (λ (waiting : List StackFrame). record { top = inside_frame s.top; waiting = waiting; context = block }) (sym (map-set inside_frame s.waiting (depth s - n - 1) frame))

  pub with_stack_inside : (s : State) (n : ℕ) (stack : List (Option Cell)) → with_stack (inside block s) n (map moved_cell stack) ≡ inside block (with_stack s n stack)
  with_stack_inside s n stack = ap (λ frame. with_frame (inside block s) n (with_stack_in frame (map moved_cell stack))) (frame_inside s n) ∙ with_frame_inside s n (with_stack_in (frame_at s n) stack)

  -- ---- jumps, calls, ends

  pub jump_inside : (s : State) (off : ℤ) → jump (inside block s) off ≡ option_map (inside block) (jump s off)
  jump_inside s off = by_target (target s.top.slot off)
    where
      by_target : (o : Option ℕ) → option_map (λ slot. at_slot slot (inside block s)) o ≡ option_map (inside block) (option_map (λ slot. at_slot slot s) o)
      by_target None = refl
      by_target (Some slot) = refl

  saved_inside : (registers : List (Option Value)) → saved (map moved_value registers) ≡ map moved_value (saved registers)
  saved_inside registers = ap₂ (λ xs ys. xs ++ ys) (empty_inside inside_value 6) (drop-map moved_value 6 registers) ∙ sym (map-append moved_value (replicate 6 None) (drop 6 registers))

  abbrev callee : ℕ → List (Option Value) → List (Option Value)
  callee d arguments = None ∷ arguments ++ replicate 4 None ++ Some (Pointer (FrameAt (d + 1)) (pos 0)) ∷ []

  callee_inside : (d : ℕ) (arguments : List (Option Value)) → callee d (map moved_value arguments) ≡ map moved_value (callee d arguments)
  callee_inside d arguments =
      let own : List (Option Value) = Some (Pointer (FrameAt (d + 1)) (pos 0)) ∷ [] in
      ap (λ xs. None ∷ xs ++ own) (ap (λ xs. map moved_value arguments ++ xs) (empty_inside inside_value 4) ∙ sym (map-append moved_value arguments (replicate 4 None)))
      ∙ ap (λ xs. None ∷ xs) (sym (map-append moved_value (arguments ++ replicate 4 None) own))

  arguments_inside : (registers : List (Option Value)) → take 5 (drop 1 (map moved_value registers)) ≡ map moved_value (take 5 (drop 1 registers))
  arguments_inside registers = ap (take 5) (drop-map moved_value 1 registers) ∙ take-map moved_value 5 (drop 1 registers)

  -- the state behind a call: the callee's registers and stack, and the caller's registers
  abbrev called : State → ℕ → List (Option Value) → List (Option Value) → List (Option Cell) → State
  called s slot registers stays stack =
      record {
        top = record { slot = slot; registers = registers; stack = stack };
        waiting = record { slot = s.top.slot + 1; registers = stays; stack = map moved_cell s.top.stack } ∷ map inside_frame s.waiting;
        context = block;
      }

  entered_inside : (s : State) (slot : ℕ) → entered (inside block s) slot ≡ inside block (entered s slot)
  entered_inside s slot =
      ap₂ (λ (d : ℕ) (arguments : List (Option Value)). called s slot (callee d arguments) (saved (map moved_value s.top.registers)) empty_stack) (depth_inside s) (arguments_inside s.top.registers)
      ∙ ap₂ (λ (registers stays : List (Option Value)). called s slot registers stays empty_stack) (callee_inside (depth s) (take 5 (drop 1 s.top.registers))) (saved_inside s.top.registers)
      ∙ ap (called s slot (map moved_value (callee (depth s) (take 5 (drop 1 s.top.registers)))) (map moved_value (saved s.top.registers))) (empty_inside inside_cell frame_bytes)

  pub call_inside : (s : State) (off : ℤ) → call (inside block s) off ≡ option_map (inside block) (call s off)
  call_inside s off = ap (λ d. if nat_lt (d + 1) max_frames then option_map (entered (inside block s)) (target s.top.slot off) else None) (depth_inside s) ∙ by_cases (nat_lt (depth s + 1) max_frames) (target s.top.slot off)
    where
      by_cases : (b : Bool) (o : Option ℕ) → (if b then option_map (entered (inside block s)) o else None) ≡ option_map (inside block) (if b then option_map (entered s) o else None)
      by_cases true None = refl
      by_cases true (Some slot) = ap Some (entered_inside s slot)
      by_cases false o = refl

  pub left_inside : (waiting : List StackFrame) (v : ℕ) (context : List ℕ) → left (map inside_frame waiting) v block ≡ option_map (inside block) (left waiting v context)
  left_inside [] v context = refl
  left_inside (caller ∷ waiting) v context =
      ap (λ (registers : List (Option Value)). Some (record { top = record { slot = caller.slot; registers = Some (Number v) ∷ registers; stack = map moved_cell caller.stack }; waiting = map inside_frame waiting; context = block }))
      (ap (drop 1) (saved_inside caller.registers) ∙ drop-map moved_value 1 (saved caller.registers))
