-- The laws of runs inside of a block.
use Rattle.std.proofs.Common.{◌≡◌, ℕ, zero, suc, ◌+◌, ◌*◌, ◌<◌, ◌^◌, ◌⊎◌, inl, inr, List, [], ◌∷◌, Option, Some, None, length, get_or, refl, sym, ap, ◌∙◌, subst, arith}
use Rattle.std.specs.Prelude.{map, option_and_then}
use Rattle.std.specs.List.{AllByRecursion}
use Rattle.std.proofs.lemmas.Option.{option_and_then_some}
use Rattle.std.proofs.lemmas.List.{length-map}
use Rattle.std.proofs.Math.ListN.{get_or-map}
use Rattle.bpf_insn.specs.Image.{IsProgram}
use Rattle.bpf_insn.specs.Laws.{AreBytes}
use Rattle.bpf_insn.specs.Instruction.{Instructions, insn_at}
use Rattle.bpf_insn.specs.declared.instruction.Reg.TheVariants.{R0}
use Rattle.bpf_insn.specs.declared.instruction.Insn.{Insn}
use Rattle.bpf_semantics.specs.State.{Cell, StackFrame, State, IsFrame, HoldsNoPart, HoldsPointer, IsNumberCell, FitsMachine, frames, cell, number_of_register, start}
use Rattle.bpf_semantics.specs.State.Cell.{Byte, Part}
use Rattle.bpf_semantics.specs.Step.{step_of, does, finish_of, result_of_exit}
use Rattle.bpf_semantics.specs.Run.{Steps}
use Rattle.bpf_semantics.proofs.StateLemmas.{encoding_at}
use Rattle.bpf_semantics.proofs.SlotLaw.{step_keeps_context}
use Rattle.bpf_semantics.proofs.RunLaw.{runs_keep_states}
use Rattle.bpf_semantics.specs.Blocks.{IsBlock, offset_inside, inside_frame, inside}
use Rattle.bpf_semantics.specs.Laws.{StandsOn, StepInside, StepsInside, FinishesInside, StateInside}
use Rattle.bpf_semantics.proofs.Values.{offset_fits, fits_inside}
use Rattle.bpf_semantics.proofs.Cells.{moved_cell}
use Rattle.bpf_semantics.proofs.States.{moved_value, number_register_inside, depth_inside}
use Rattle.bpf_semantics.proofs.Head.{Holds, holds}
use Rattle.bpf_semantics.proofs.Instruction.{does_inside}

-- ---- steps

pub holds_on : {p : Instructions} {packet block : List ℕ} {s : State} → StandsOn p packet block s → Holds s.context block
holds_on {p = p} {packet = packet} {block = block} on = subst (λ context. Holds context block) (sym on.context_is) (holds p.order packet block on.is_block)

pub few_on : {p : Instructions} {packet block : List ℕ} {s : State} → StandsOn p packet block s → length s.context < 2 ^ 32
few_on on = subst (λ context. length context < 2 ^ 32) (sym on.context_is) on.short

pub step_inside : StepInside
unfolding step_of
step_inside p packet block s t on e = option_and_then_some _ (insn_at p.list s.top.slot) t e (λ i ei ed.
    ap (option_and_then (λ i. does p.order i (inside block s))) ei ∙ does_inside block s t on.state (holds_on on) (few_on on) p.order i (encoding_at p.list on.program.encoding s.top.slot i ei) ed)

context_kept : (p : Instructions) (packet : List ℕ) (k : ℕ) (s : State) → Steps p k (start packet) s → s.context ≡ packet
context_kept p packet zero s e = ap (λ (s : State). s.context) e
context_kept p packet (suc k) s (mid, steps, step) = step_keeps_context p mid s step ∙ context_kept p packet k mid steps

-- each state of a run on the packet stands on it
pub run_stands : (p : Instructions) (packet block : List ℕ) (k : ℕ) (s : State) → IsProgram p.list → IsBlock p.order packet block → AreBytes packet → length packet < 2 ^ 32 → Steps p k (start packet) s → StandsOn p packet block s
run_stands p packet block k s prog b bytes few steps = record { program = prog; is_block = b; short = few; state = runs_keep_states p packet k s prog bytes (omega arith) steps; context_is = context_kept p packet k s steps }

pub steps_inside : StepsInside
steps_inside p packet block zero s prog b bytes few e = ap (inside block) e
steps_inside p packet block (suc k) s prog b bytes few (mid, steps, step) =
    (inside block mid, steps_inside p packet block k mid prog b bytes few steps, step_inside p packet block mid s (run_stands p packet block k mid prog b bytes few steps) step)

-- ---- ends

ends_inside : (waiting : List StackFrame) (r0 : Option ℕ) (i : Insn) → result_of_exit (map inside_frame waiting) r0 i ≡ result_of_exit waiting r0 i
ends_inside [] r0 i = refl
ends_inside (frame ∷ waiting) r0 i = refl

pub finishes_inside : FinishesInside
unfolding finish_of
finishes_inside p block s v e = option_and_then_some _ (insn_at p.list s.top.slot) v e (λ i ei ef.
    ap (option_and_then (λ i. result_of_exit (map inside_frame s.waiting) (number_of_register (inside block s) R0) i)) ei
    ∙ ends_inside s.waiting (number_of_register (inside block s) R0) i
    ∙ ap (λ r0. result_of_exit s.waiting r0 i) (number_register_inside block s R0)
    ∙ ef)

-- ---- states

number_cell_inside : (c : Option Cell) → IsNumberCell c → IsNumberCell (moved_cell c)
number_cell_inside None h = h
number_cell_inside (Some (Byte b)) h = h
number_cell_inside (Some (Part i region off)) h = absurd h

slot_inside : (stack : List (Option Cell)) (k : ℕ) → HoldsNoPart stack k ⊎ HoldsPointer stack k → HoldsNoPart (map moved_cell stack) k ⊎ HoldsPointer (map moved_cell stack) k
slot_inside stack k (inl none) = inl (λ j lt. subst IsNumberCell (sym (get_or-map moved_cell stack (8 * k + j) None)) (number_cell_inside (cell stack (8 * k + j)) (none j lt)))
slot_inside stack k (inr pointer) = inr (record {
  region = pointer.region;
  offset = offset_inside pointer.region pointer.offset;
  fits = offset_fits pointer.region pointer.offset pointer.fits;
  parts = λ j lt. get_or-map moved_cell stack (8 * k + j) None ∙ ap moved_cell (pointer.parts j lt);
})

is_frame_inside : (frame : StackFrame) → IsFrame frame → IsFrame (inside_frame frame)
is_frame_inside frame h = record {
  eleven = length-map frame.registers moved_value ∙ h.eleven;
  values = λ r. subst FitsMachine (sym (get_or-map moved_value frame.registers r None)) (fits_inside (get_or frame.registers r None) (h.values r));
  cells = length-map frame.stack moved_cell ∙ h.cells;
  whole = λ k lt. slot_inside frame.stack k (h.whole k lt);
}

frames_inside : (fs : List StackFrame) → AllByRecursion IsFrame fs → AllByRecursion IsFrame (map inside_frame fs)
frames_inside [] h = h
frames_inside (frame ∷ fs) h = (is_frame_inside frame h.0, frames_inside fs h.1)

pub state_inside : StateInside
state_inside block s bytes h = record {
  few_frames = let few = h.few_frames in let same = depth_inside block s in omega arith;
  each_frame = frames_inside (frames s) h.each_frame;
  bytes = bytes;
}
