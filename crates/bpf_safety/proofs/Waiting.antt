-- No step but a call and a return changes a waiting frame.
use Rattle.std.proofs.Common.{◌≡◌, ℕ, ℤ, ◌+◌, ◌%◌, refl, sym, ◌∙◌, ap, subst, List, Option, Some, None, Bool, true, false, cond}
use Rattle.std.specs.Prelude.{◌==◌, option_map, option_and_then}
use Rattle.std.proofs.lemmas.Option.{same_Some}
use Rattle.bpf_insn.specs.declared.order.Order.{Order}
use Rattle.bpf_insn.specs.declared.instruction.Reg.{Reg}
use Rattle.bpf_insn.specs.declared.instruction.Reg.TheVariants.{R0}
use Rattle.bpf_insn.specs.declared.instruction.AtomicOp.{AtomicOp}
use Rattle.bpf_insn.specs.declared.instruction.Size.{Size}
use Rattle.bpf_insn.specs.declared.instruction.Size.TheVariants.{B, H, W, DW}
use Rattle.bpf_insn.specs.declared.instruction.Insn.{Insn}
use Rattle.bpf_insn.specs.declared.instruction.Insn.TheVariants.{Alu, Neg, MovSx, End, LoadImm64, Load, LoadSx, Store, StoreImm, Atomic, Ja, JaLong, JumpIf, CallLocal, Exit}
use Rattle.bpf_semantics.specs.declared.value.Value.{Value}
use Rattle.bpf_semantics.specs.declared.value.Value.TheVariants.{Number as NumberValue, Pointer as PointerValue}
use Rattle.bpf_insn.specs.Instruction.{Instructions, register_number, target, byte_count, word_size}
use Rattle.bpf_insn.specs.Arithmetic.{extended}
use Rattle.bpf_insn.specs.Order.{bytes_of}
use Rattle.bpf_semantics.specs.Step.{does, next, store, fetched, jump, load, load_extended, operand, alu_result, atomic_result, test_of_values}
use Rattle.bpf_insn.specs.Effects.{fetch_register}
use Rattle.bpf_semantics.specs.State as machine
use Rattle.bpf_semantics.specs.State.{Cell, StackFrame, put}
use Rattle.bpf_semantics.specs.Memory.{location_of, number_at, stack_of, with_stack, with_bytes, with_parts, store_pointer}
use Rattle.bpf_semantics.specs.Memory.Location.{InFrame}
use Rattle.bpf_state.specs.State.{AbstractState, register}
use Rattle.bpf_safety.specs.Laws.{IsJudged, IsCallOrExit, WaitingFramesStay}
use Rattle.bpf_safety.proofs.Judged.{step_is}
use Rattle.bpf_safety.proofs.FrameStores.{InTop, store_access, store_top, with_top_stack, store_imm_base}
use Rattle.bpf_safety.proofs.RegisterStores.{store_base}
use Rattle.bpf_safety.proofs.Atomics.{atomic_access, atomic_base}
use Rattle.bpf_safety.proofs.NumberStores.{at_top}

-- where there is such a state, its waiting frames are these
abbrev Stays : List StackFrame → Option machine.State → Type 0
Stays waiting o = (m : machine.State) → o ≡ Some m → m.waiting ≡ waiting

stays_after : {A : Type 0} (waiting : List StackFrame) (o : Option A) (f : A → Option machine.State) → ((a : A) → Stays waiting (f a)) → Stays waiting (option_and_then f o)
stays_after waiting (Some a) f each m is = each a m is
stays_after waiting None f each m is = cc

stays_some : (s : machine.State) → Stays s.waiting (Some s)
stays_some s m is = ap (λ n. n.waiting) (sym (same_Some s m is))

put_stays : (r : Reg) (v : Value) (s : machine.State) → Stays s.waiting (put r v s)
put_stays r v s m is = by_test (register_number r == 10) is
  where
    by_test : (b : Bool) → cond b None (Some (machine.with_register s (register_number r) (Some v))) ≡ Some m → m.waiting ≡ s.waiting
    by_test true is = cc
    by_test false is = ap (λ n. n.waiting) (sym (same_Some (machine.with_register s (register_number r) (Some v)) m is))

jump_stays : (s : machine.State) (off : ℤ) → Stays s.waiting (jump s off)
jump_stays s off m is = by_target (target s.top.slot off) is
  where
    by_target : (o : Option ℕ) → option_map (λ slot. machine.at_slot slot s) o ≡ Some m → m.waiting ≡ s.waiting
    by_target (Some slot) is = ap (λ n. n.waiting) (sym (same_Some (machine.at_slot slot s) m is))
    by_target None is = cc

branch_stays : (s t : machine.State) (off : ℤ) (taken : Bool) → t.waiting ≡ s.waiting → Stays s.waiting (cond taken (jump s off) (Some t))
branch_stays s t off true same m is = jump_stays s off m is
branch_stays s t off false same m is = stays_some t m is ∙ same

-- ---- writes to the top frame

store_stays : (order : Order) (size : Size) (v : Value) (c sl : ℕ) (m : machine.State) → Stays m.waiting (store order size v (InFrame (machine.depth m) c) (machine.at_slot sl m))
unfolding store_pointer
store_stays order size (NumberValue y) c sl m t is =
    let there : machine.State = at_top m sl (with_bytes (bytes_of order (byte_count size) y) c m.top.stack) in
    ap (λ n. n.waiting) (sym (same_Some there t (sym (store_top order (byte_count size) y c sl m) ∙ is)))
store_stays order B (PointerValue region off) c sl m t is = cc
store_stays order H (PointerValue region off) c sl m t is = cc
store_stays order W (PointerValue region off) c sl m t is = cc
store_stays order DW (PointerValue region off) c sl m t is = by_test (c % 8 == 0) is
  where
    stack : List (Option Cell)
    stack = with_parts region off c (stack_of (machine.at_slot sl m) (machine.depth m))

    by_test : (b : Bool) → cond b (Some (with_stack (machine.at_slot sl m) (machine.depth m) stack)) None ≡ Some t → t.waiting ≡ m.waiting
    by_test true is = ap (λ n. n.waiting) (sym (same_Some (with_stack (machine.at_slot sl m) (machine.depth m) stack) t is)) ∙ ap (λ n. n.waiting) (with_top_stack sl m stack)
    by_test false is = cc

fetched_stays : (r : Option Reg) (old : ℕ) (s : machine.State) → Stays s.waiting (fetched r old s)
fetched_stays None old s = stays_some s
fetched_stays (Some r) old s = put_stays r (NumberValue old) s

module _ (p : Instructions) (least most : ℕ) (x : List ℕ) where
  store_waits : (size : Size) (dst src : Reg) (off : ℤ) (s : AbstractState) (m : machine.State) → InTop m (store_access size dst off) (register s dst) → Stays m.waiting (does p.order (Store size dst off src) m)
  unfolding does
  store_waits size dst src off s m t =
      rw t.base (stays_after m.waiting (machine.register m src) _ (λ v. rw t.place (store_stays p.order size v t.first (m.top.slot + 1) m)))

  store_imm_waits : (size : Size) (dst : Reg) (off imm : ℤ) (s : AbstractState) (m : machine.State) → InTop m (store_access size dst off) (register s dst) → Stays m.waiting (does p.order (StoreImm size dst off imm) m)
  unfolding does
  store_imm_waits size dst off imm s m t =
      rw (t.base, t.place) (store_stays p.order size (NumberValue (extended imm)) t.first (m.top.slot + 1) m)

  atomic_waits : (wide : Bool) (op : AtomicOp) (dst src : Reg) (off : ℤ) (s : AbstractState) (m : machine.State) → InTop m (atomic_access wide dst off) (register s dst) → Stays m.waiting (does p.order (Atomic wide op dst off src) m)
  unfolding does
  atomic_waits wide op dst src off s m t =
      let n : ℕ = byte_count (word_size wide) in
      rw t.base
      (stays_after m.waiting (machine.number_of_register m src) _ (λ y. rw t.place
      (stays_after m.waiting (number_at p.order m n (InFrame (machine.depth m) t.first)) _ (λ old.
      stays_after m.waiting (atomic_result op (word_size wide) old y (machine.number_of_register m R0)) _ (λ new.
      subst (λ o. Stays m.waiting (option_and_then (λ after. fetched (fetch_register op src) old after) o)) (sym (store_top p.order n new t.first (m.top.slot + 1) m))
      (fetched_stays (fetch_register op src) old (at_top m (m.top.slot + 1) (with_bytes (bytes_of p.order n new) t.first m.top.stack))))))))

  waits : (i : Insn) (s : AbstractState) (m : machine.State) → IsJudged p least most x i s m → (IsCallOrExit i → ⊥) → Stays m.waiting (does p.order i m)
  unfolding does
  waits (Alu op width dst src) s m j plain =
      stays_after m.waiting (operand m src) _ (λ b. stays_after m.waiting (alu_result width op (machine.register m dst) b) _ (λ v. put_stays dst v (next (Alu op width dst src) m)))
  waits (Neg width dst) s m j plain = stays_after m.waiting (machine.number_of_register m dst) _ (λ a. put_stays dst _ (next (Neg width dst) m))
  waits (MovSx width bits dst src) s m j plain = stays_after m.waiting (machine.number_of_register m src) _ (λ a. put_stays dst _ (next (MovSx width bits dst src) m))
  waits (End kind bits dst) s m j plain = stays_after m.waiting (machine.number_of_register m dst) _ (λ a. put_stays dst _ (next (End kind bits dst) m))
  waits (LoadImm64 dst value) s m j plain = put_stays dst _ (next (LoadImm64 dst value) m)
  waits (Load size dst src off) s m j plain =
      stays_after m.waiting (machine.register m src) _ (λ base. stays_after m.waiting (location_of m (byte_count size) off base) _ (λ place.
      stays_after m.waiting (load p.order m size place) _ (λ v. put_stays dst v (next (Load size dst src off) m))))
  waits (LoadSx size dst src off) s m j plain =
      stays_after m.waiting (machine.register m src) _ (λ base. stays_after m.waiting (location_of m (byte_count size) off base) _ (λ place.
      stays_after m.waiting (load_extended p.order m size place) _ (λ v. put_stays dst v (next (LoadSx size dst src off) m))))
  waits (Store size dst off src) s m j plain = store_waits size dst src off s m (store_base p least most x size dst src off s m j)
  waits (StoreImm size dst off imm) s m j plain = store_imm_waits size dst off imm s m (store_imm_base p least most x size dst off imm s m j)
  waits (Atomic wide op dst off src) s m j plain = atomic_waits wide op dst src off s m (atomic_base p least most x wide op dst src off s m j)
  waits (Ja off) s m j plain = jump_stays m off
  waits (JaLong off) s m j plain = jump_stays m off
  waits (JumpIf cond width dst src off) s m j plain =
      stays_after m.waiting (machine.register m dst) _ (λ a. stays_after m.waiting (operand m src) _ (λ b.
      stays_after m.waiting (test_of_values width cond a b) _ (λ taken. branch_stays m (next (JumpIf cond width dst src off) m) off taken refl)))
  waits (CallLocal off) s m j plain = absurd (plain tt)
  waits Exit s m j plain = absurd (plain tt)

pub waiting_frames_stay : WaitingFramesStay
waiting_frames_stay p least most x i s m m' j plain goes = waits p least most x i s m j plain m' (step_is p m m' i j.stands goes)
