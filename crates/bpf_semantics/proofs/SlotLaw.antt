-- What a step keeps besides states: the context, and where each frame goes on.
use Rattle.std.proofs.Common.{◌≡◌, suc, zero, List, [], ◌∷◌, Option, Some, None, refl, ap, sym, subst, ◌+◌, ◌-◌, ◌%◌, ℕ, arith, ◌∙◌, inl, inr, ◌⊎◌}
use Rattle.std.specs.Prelude.{ℤ, Bool, true, false, set, cond, option_and_then, ◌==◌, IsSome, IfSome}
use Rattle.std.proofs.lemmas.Option.{none-some, same_Some, option_and_then_some, cond_some}
use Rattle.std.proofs.lemmas.Bool.{cond_both}
use Rattle.std.specs.List.{AllByRecursion}
use Rattle.bpf_insn.specs.Instruction.{Instructions, register_number, byte_count, word_size, slot_count, slots, layout, insn_in, insn_at, distance, target}
use Rattle.bpf_insn.specs.Image.{IsProgram, LeadsInside}
use Rattle.bpf_insn.specs.Arithmetic.{extended}
use Rattle.bpf_semantics.specs.State.{State, StackFrame, frames, frame_at, depth, register, number_of_register, put, with_register, with_top, at_slot}
use Rattle.bpf_semantics.specs.Memory.{Location, with_frame, location_of, number_at, store_number, store_pointer}
use Rattle.bpf_semantics.specs.Memory.Location.{InContext, InFrame}
use Rattle.bpf_semantics.specs.Step.{does, step_of, next, jump, call, entered, left, operand, alu_result, load, load_extended, store, test_of_values, atomic_result, fetched}
use Rattle.bpf_insn.specs.Effects.{fetch_register}
use Rattle.bpf_semantics.specs.MachineLaws.{StepKeepsContext, StepKeepsSlots}
use Rattle.bpf_insn.specs.declared.order.Order.{Order}
use Rattle.bpf_insn.specs.declared.instruction.Reg.{Reg}
use Rattle.bpf_insn.specs.declared.instruction.Reg.TheVariants.{R0}
use Rattle.bpf_insn.specs.declared.instruction.Size.{Size}
use Rattle.bpf_insn.specs.declared.instruction.Size.TheVariants.{DW}
use Rattle.bpf_insn.specs.declared.instruction.Insn.{Insn}
use Rattle.bpf_insn.specs.declared.instruction.Insn.TheVariants.{Alu, Neg, MovSx, End, LoadImm64, Load, LoadSx, Store, StoreImm, Atomic, Ja, JaLong, JumpIf, CallLocal, Exit}
use Rattle.bpf_semantics.specs.declared.value.Value.{Value}
use Rattle.bpf_semantics.specs.declared.value.Value.TheVariants.{Number, Pointer}
use Rattle.bpf_semantics.proofs.StateLemmas.{option_map_some, cond_option, all_get, left_is}

-- The context is as it was, and what held of the slots of all frames holds still.
record Keeps (good : ℕ → Type 0) (s t : State) : Type 0 where
  context : t.context ≡ s.context
  slots : AllByRecursion (λ frame. good frame.slot) (frames s) → AllByRecursion (λ frame. good frame.slot) (frames t)

same : {good : ℕ → Type 0} {s t : State} → s ≡ t → Keeps good s t
same {good = good} {s = s} e = subst (Keeps good s) e (record { context = refl; slots = λ h. h })

both : {good : ℕ → Type 0} {s t u : State} → Keeps good s t → Keeps good t u → Keeps good s u
both first then = record { context = then.context ∙ first.context; slots = λ h. then.slots (first.slots h) }

moved : {good : ℕ → Type 0} (s : State) (slot : ℕ) → good slot → Keeps good s (at_slot slot s)
moved s slot here = record { context = refl; slots = λ h. (here, h.1) }

written : {good : ℕ → Type 0} (s : State) (r : Reg) (v : Value) (t : State) → put r v s ≡ Some t → Keeps good s t
written {good = good} s r v t e = elim (register_number r == 10) as (λ b. cond b None (Some (with_register s (register_number r) (Some v))) ≡ Some t → Keeps good s t) [
  | true ↦ λ e. absurd (none-some _ e)
  | false ↦ λ e. subst (Keeps good s) (same_Some _ _ e) (record { context = refl; slots = λ h. (h.0, h.1) })
] e

fetch_written : {good : ℕ → Type 0} (s : State) (r : Option Reg) (old : ℕ) (t : State) → fetched r old s ≡ Some t → Keeps good s t
fetch_written s None old t e = same (same_Some _ _ e)
fetch_written s (Some r) old t e = written s r (Number old) t e

set_all : (P : StackFrame → Type 0) (fs : List StackFrame) (k : ℕ) (frame : StackFrame) → P frame → AllByRecursion P fs → AllByRecursion P (set fs k frame)
set_all P [] k frame h all = tt
set_all P (x ∷ fs) zero frame h all = (h, all.1)
set_all P (x ∷ fs) (suc k) frame h all = (all.0, set_all P fs k frame h all.1)

-- a frame is replaced by one with the same slot
framed : {good : ℕ → Type 0} (s : State) (n : ℕ) (frame : StackFrame) → frame.slot ≡ (frame_at s n).slot → Keeps good s (with_frame s n frame)
framed {good = good} s n frame e = cond_both (n == depth s) (with_top s frame) _ (Keeps good s)
    (λ _. record { context = refl; slots = λ h. (here h, h.1) })
    (λ _. record { context = refl; slots = λ h. (h.0, set_all (λ frame. good frame.slot) s.waiting (depth s - n - 1) frame (here h) h.1) })
  where
    here : AllByRecursion (λ frame. good frame.slot) (frames s) → good frame.slot
    here h = subst good (sym e) (all_get (λ frame. good frame.slot) (frames s) (depth s - n) s.top h.0 h)

number_stored : {good : ℕ → Type 0} (order : Order) (k x : ℕ) (place : Location) (s t : State) → store_number order k x place s ≡ Some t → Keeps good s t
unfolding store_number
number_stored order k x (InContext i) s t e = absurd (none-some _ e)
number_stored {good = good} order k x (InFrame n i) s t e = subst (Keeps good s) (same_Some _ _ e) (framed s n _ refl)

stored : {good : ℕ → Type 0} (order : Order) (size : Size) (v : Value) (place : Location) (s t : State) → store order size v place s ≡ Some t → Keeps good s t
unfolding store_pointer
stored order size (Number x) place s t e = number_stored order (byte_count size) x place s t e
stored order DW (Pointer region off) (InContext i) s t e = absurd (none-some _ e)
stored {good = good} order DW (Pointer region off) (InFrame n i) s t e = let h = cond_some (i % 8 == 0) _ t e in subst (Keeps good s) h.1 (framed s n _ refl)
stored order size (Pointer region off) place s t e = absurd (none-some _ e)

jumped : {good : ℕ → Type 0} (s : State) (off : ℤ) (t : State) → ((slot : ℕ) → target s.top.slot off ≡ Some slot → good slot) → jump s off ≡ Some t → Keeps good s t
jumped {good = good} s off t led e = let h = option_map_some (λ slot. at_slot slot s) (target s.top.slot off) t e in subst (Keeps good s) h.2 (moved s h.0 (led h.0 h.1))

branched : {good : ℕ → Type 0} (s : State) (off : ℤ) (i : Insn) (taken : Bool) (t : State) → good (s.top.slot + slot_count i) → ((slot : ℕ) → target s.top.slot off ≡ Some slot → good slot) → cond taken (jump s off) (Some (next i s)) ≡ Some t → Keeps good s t
branched s off i true t after led e = jumped s off t led e
branched {good = good} s off i false t after led e = subst (Keeps good s) (same_Some _ _ e) (moved s _ after)

called : {good : ℕ → Type 0} (s : State) (off : ℤ) (t : State) → good (s.top.slot + 1) → ((slot : ℕ) → target s.top.slot off ≡ Some slot → good slot) → call s off ≡ Some t → Keeps good s t
called {good = good} s off t after led e =
    let h = cond_option _ _ t e in
    let k = option_map_some (entered s) (target s.top.slot off) t h.1 in
    subst (Keeps good s) k.2 (record { context = refl; slots = λ h. (led k.0 k.1, (after, h.1)) })

returned : {good : ℕ → Type 0} (s : State) (v : ℕ) (t : State) → left s.waiting v s.context ≡ Some t → Keeps good s t
returned {good = good} s v t e =
    let h = left_is s.waiting v s.context t e in
    subst (Keeps good s) h.3 (record { context = refl; slots = λ all. let rest : AllByRecursion (λ frame. good frame.slot) (h.0 ∷ h.1) = subst (AllByRecursion (λ frame. good frame.slot)) h.2 all.1 in (rest.0, rest.1) })

-- Where an instruction leads: the slot after it, and its target.
does_keeps : {good : ℕ → Type 0} (order : Order) (s t : State) (i : Insn) → good (s.top.slot + slot_count i) → ((off : ℤ) (slot : ℕ) → distance i ≡ Some off → target s.top.slot off ≡ Some slot → good slot) → does order i s ≡ Some t → Keeps good s t
unfolding does
does_keeps order s t (Alu op width dst src) after led e = option_and_then_some _ (operand s src) t e (λ b eb e. option_and_then_some _ (alu_result width op (register s dst) b) t e (λ v ev e. both (moved s _ after) (written _ dst v t e)))
does_keeps order s t (Neg width dst) after led e = option_and_then_some _ (number_of_register s dst) t e (λ a ea e. both (moved s _ after) (written _ dst _ t e))
does_keeps order s t (MovSx width bits dst src) after led e = option_and_then_some _ (number_of_register s src) t e (λ b eb e. both (moved s _ after) (written _ dst _ t e))
does_keeps order s t (End kind bits dst) after led e = option_and_then_some _ (number_of_register s dst) t e (λ a ea e. both (moved s _ after) (written _ dst _ t e))
does_keeps order s t (LoadImm64 dst value) after led e = both (moved s _ after) (written _ dst _ t e)
does_keeps order s t (Load size dst src off) after led e = option_and_then_some _ (register s src) t e (λ base eb e. option_and_then_some _ (location_of s (byte_count size) off base) t e (λ place ep e. option_and_then_some _ (load order s size place) t e (λ v ev e. both (moved s _ after) (written _ dst v t e))))
does_keeps order s t (LoadSx size dst src off) after led e = option_and_then_some _ (register s src) t e (λ base eb e. option_and_then_some _ (location_of s (byte_count size) off base) t e (λ place ep e. option_and_then_some _ (load_extended order s size place) t e (λ v ev e. both (moved s _ after) (written _ dst v t e))))
does_keeps order s t (Store size dst off src) after led e = option_and_then_some _ (register s dst) t e (λ base eb e. option_and_then_some _ (register s src) t e (λ v ev e. option_and_then_some _ (location_of s (byte_count size) off base) t e (λ place ep e. both (moved s _ after) (stored order size v place _ t e))))
does_keeps order s t (StoreImm size dst off imm) after led e = option_and_then_some _ (register s dst) t e (λ base eb e. option_and_then_some _ (location_of s (byte_count size) off base) t e (λ place ep e. both (moved s _ after) (stored order size (Number (extended imm)) place _ t e)))
does_keeps order s t (Atomic wide op dst off src) after led e =
    let size : Size = word_size wide in
    option_and_then_some _ (register s dst) t e (λ base eb e. option_and_then_some _ (number_of_register s src) t e (λ x ex e. option_and_then_some _ (location_of s (byte_count size) off base) t e (λ place ep e. option_and_then_some _ (number_at order s (byte_count size) place) t e (λ old eo e. option_and_then_some _ (atomic_result op size old x (number_of_register s R0)) t e (λ new en e. option_and_then_some _ (store_number order (byte_count size) new place (next (Atomic wide op dst off src) s)) t e (λ middle em e.
    both (moved s _ after) (both (number_stored order (byte_count size) new place _ middle em) (fetch_written middle (fetch_register op src) old t e))))))))
does_keeps order s t (Ja off) after led e = jumped s off t (λ slot es. led off slot refl es) e
does_keeps order s t (JaLong off) after led e = jumped s off t (λ slot es. led off slot refl es) e
does_keeps order s t (JumpIf cond width dst src off) after led e = option_and_then_some _ (register s dst) t e (λ a ea e. option_and_then_some _ (operand s src) t e (λ b eb e. option_and_then_some _ (test_of_values width cond a b) t e (λ taken et e. branched s off (JumpIf cond width dst src off) taken t after (λ slot es. led off slot refl es) e)))
does_keeps order s t (CallLocal off) after led e = called s off t after (λ slot es. led off slot refl es) e
does_keeps order s t Exit after led e = option_and_then_some _ (number_of_register s R0) t e (λ v ev e. returned s v t e)

pub step_keeps_context : StepKeepsContext
unfolding step_of
step_keeps_context p s t e = option_and_then_some _ (insn_at p.list s.top.slot) t e (λ i ei ed.
    let kept : Keeps (λ slot. Unit {0}) s t = does_keeps p.order s t i tt (λ off slot _ _. tt) ed in
    kept.context)

-- ---- first slots

abbrev IsGoodSlot : List Insn → ℕ → Type 0
IsGoodSlot is slot = IsSome (insn_at is slot) ⊎ (slot ≡ slots is)

first_slot : (is : List Insn) → IsGoodSlot is 0
first_slot [] = inr refl
first_slot (LoadImm64 dst value ∷ is) = inl refl
first_slot (i ∷ is) = inl refl

one_on : (is : List Insn) (slot more : ℕ) → (slot ≡ suc more) → IsSome (insn_in (layout is) more) ⊎ (more ≡ slots is) → (i : Insn) → IsSome (insn_in (Some i ∷ layout is) slot) ⊎ (slot ≡ suc (slots is))
one_on is slot more e (inl h) i = inl (subst (λ slot. IsSome (insn_in (Some i ∷ layout is) slot)) (sym e) h)
one_on is slot more e (inr h) i = inr (e ∙ ap suc h)

two_on : (is : List Insn) (slot more : ℕ) → (slot ≡ suc (suc more)) → IsSome (insn_in (layout is) more) ⊎ (more ≡ slots is) → (i : Insn) → IsSome (insn_in (Some i ∷ None ∷ layout is) slot) ⊎ (slot ≡ suc (suc (slots is)))
two_on is slot more e (inl h) i = inl (subst (λ slot. IsSome (insn_in (Some i ∷ None ∷ layout is) slot)) (sym e) h)
two_on is slot more e (inr h) i = inr (e ∙ ap (λ n. suc (suc n)) h)

-- behind an instruction there is one, or the end
slot_after : (is : List Insn) (slot : ℕ) (i : Insn) → insn_at is slot ≡ Some i → IsGoodSlot is (slot + slot_count i)
slot_after [] slot i e = absurd (none-some _ e)
slot_after (LoadImm64 dst value ∷ is) zero i e = subst (λ i. IsGoodSlot (LoadImm64 dst value ∷ is) (0 + slot_count i)) (same_Some _ _ e) (two_on is 2 0 refl (first_slot is) (LoadImm64 dst value))
slot_after (LoadImm64 dst value ∷ is) (suc zero) i e = absurd (none-some _ e)
slot_after (LoadImm64 dst value ∷ is) (suc (suc slot)) i e = two_on is _ (slot + slot_count i) (omega arith) (slot_after is slot i e) (LoadImm64 dst value)
slot_after (i ∷ is) zero j e = subst (λ j. IsGoodSlot (i ∷ is) (0 + slot_count j)) (same_Some _ _ e) (one_on is 1 0 refl (first_slot is) i)
slot_after (i ∷ is) (suc slot) j e = one_on is _ (slot + slot_count j) (omega arith) (slot_after is slot j e) i

-- a target is an instruction's first slot
target_good : (p : Instructions) → IsProgram p.list → (at : ℕ) (i : Insn) → insn_at p.list at ≡ Some i → (off : ℤ) (slot : ℕ) → distance i ≡ Some off → target at off ≡ Some slot → IsGoodSlot p.list slot
target_good p prog at i ei off slot ed et =
    let led : LeadsInside (layout p.list) at off = subst (λ o. IfSome o (λ off. LeadsInside (layout p.list) at off)) ed (prog.targets at i ei) in
    inl (subst (λ o. IsSome (option_and_then (insn_in (layout p.list)) o)) et led)

pub step_keeps_slots : StepKeepsSlots
unfolding step_of
step_keeps_slots p s t prog all e = option_and_then_some _ (insn_at p.list s.top.slot) t e (λ i ei ed.
    let kept : Keeps (IsGoodSlot p.list) s t = does_keeps p.order s t i (slot_after p.list s.top.slot i ei) (target_good p prog s.top.slot i ei) ed in
    kept.slots all)
