-- Where a step leads, and on which edge of the abstract state.
use Rattle.std.proofs.Common.{nat_lt, drop, ◌≡◌, ◌-◌, ◌%◌, slice_set, true≢false, ℕ, ◌+◌, ◌⊎◌, inl, inr, refl, sym, ap, ◌∙◌, arith, ℤ, Bool, true, false, cond, List, ◌∷◌, Option, Some, None, is_some, option_map, option_and_then, get_or, ◌==◌}
use Rattle.std.proofs.lemmas.Bool.{false≢true}
use Rattle.bpf_insn.specs.declared.order.Order.{Order}
use Rattle.bpf_insn.specs.declared.instruction.Reg.{Reg}
use Rattle.bpf_insn.specs.declared.instruction.Insn.{Insn}
use Rattle.bpf_insn.specs.declared.instruction.Insn.TheVariants.{Alu, Neg, MovSx, End, LoadImm64, Load, LoadSx, Store, StoreImm, Atomic, Ja, JaLong, JumpIf, CallLocal, Exit}
use Rattle.bpf_insn.specs.declared.instruction.Reg.TheVariants.{R0}
use Rattle.bpf_insn.specs.declared.instruction.Cond.{Cond}
use Rattle.bpf_insn.specs.declared.instruction.Width.{Width}
use Rattle.bpf_insn.specs.declared.instruction.Operand.{Operand}
use Rattle.bpf_insn.specs.declared.instruction.Size.{Size}
use Rattle.bpf_insn.specs.declared.instruction.Size.TheVariants.{B, H, W, DW}
use Rattle.bpf_semantics.specs.declared.value.Value.{Value}
use Rattle.bpf_semantics.specs.declared.value.Value.TheVariants.{Number, Pointer}
use Rattle.bpf_semantics.specs.declared.value.Region.{Region}
use Rattle.bpf_insn.specs.Order.{bytes_of}
use Rattle.bpf_insn.specs.Arithmetic.{extended}
use Rattle.bpf_semantics.specs.State.{Cell}
use Rattle.bpf_semantics.specs.Memory.{Location, location_of, number_at, with_stack, with_stack_in, with_bytes, with_parts, stack_of, store_number, store_pointer}
use Rattle.bpf_semantics.specs.Memory.Location.{InContext, InFrame}
use Rattle.std.proofs.lemmas.Bool.Decides.{nat_tests}
use Rattle.bpf_insn.specs.Instruction.{Instructions, insn_at, slot_count, target, distance, register_number, byte_count, word_size}
use Rattle.bpf_semantics.specs.State as machine
use Rattle.bpf_semantics.specs.Step.{Step, step_of, does, jump, next, operand, test_of_values, alu_result, load, load_extended, store, atomic_result, fetched, entered, saved, left}
use Rattle.bpf_insn.specs.Effects.{fetch_register}
use Rattle.bpf_state.specs.State.{AbstractState}
use Rattle.bpf_safety.specs.Laws as abstract
use Rattle.bpf_safety.proofs.Basics.{some_is}
use Rattle.bpf_safety.proofs.LawsBelow.{Laws}
use Rattle.bpf_cert.specs.View.{CertificateView}
use Rattle.bpf_safety.specs.Flow.{jump_target, jump_state, next_state}

-- the next instruction, or the target of a jump
pub record GoesNext (p : Instructions) (c : CertificateView) (x : List ℕ) (i : Insn) (s : AbstractState) (m m' : machine.State) : Type 0 where
  pub to : m'.top.slot ≡ m.top.slot + slot_count i
  pub leads : abstract.Leads p c.least c.most x (next_state p c m.top.slot i s) m'

pub record Jumps (p : Instructions) (c : CertificateView) (x : List ℕ) (i : Insn) (s : AbstractState) (m m' : machine.State) : Type 0 where
  pub to : jump_target m.top.slot i ≡ Some m'.top.slot
  pub leads : abstract.Leads p c.least c.most x (jump_state m.top.slot i s) m'

-- a chain that gives a value has a first part that does
pub record Chained {A B : Type 0} (o : Option A) (f : A → Option B) (b : B) : Type 0 where
  pub value : A
  pub is_there : o ≡ Some value
  pub rest : f value ≡ Some b

chained : {A B : Type 0} (o : Option A) (f : A → Option B) (b : B) → option_and_then f o ≡ Some b → Chained o f b
chained None f b e = absurd (false≢true (ap is_some e))
chained (Some a) f b e = record { value = a; is_there = refl; rest = e }

pub does_at : (p : Instructions) (m m' : machine.State) (i : Insn) → insn_at p.list m.top.slot ≡ Some i → Step p m m' → does p.order i m ≡ Some m'
unfolding step_of
does_at p m m' i e step = ap (λ o. option_and_then (λ j. does p.order j m) o) (sym e) ∙ step

-- ---- what doesn't move the top frame's slot

put_slot : (r : Reg) (v : Value) (s t : machine.State) → machine.put r v s ≡ Some t → t.top.slot ≡ s.top.slot
put_slot r v s t e = by_test (register_number r == 10) e
  where
    by_test : (b : Bool) → cond b None (Some (machine.with_register s (register_number r) (Some v))) ≡ Some t → t.top.slot ≡ s.top.slot
    by_test true e = absurd (false≢true (ap is_some e))
    by_test false e = ap (λ z. z.top.slot) (sym (some_is (machine.with_register s (register_number r) (Some v)) t e))

with_stack_slot : (s : machine.State) (n : ℕ) (stack : List (Option Cell)) → (with_stack s n stack).top.slot ≡ s.top.slot
with_stack_slot s n stack = by_test (n == machine.depth s) refl
  where
    frame : machine.StackFrame
    frame = with_stack_in (machine.frame_at s n) stack

    by_test : (b : Bool) → (n == machine.depth s) ≡ b → (cond b (machine.with_top s (with_stack_in (machine.frame_at s n) stack)) (record { top = s.top; waiting = slice_set s.waiting (machine.depth s - n - 1) (with_stack_in (machine.frame_at s n) stack); context = s.context })).top.slot ≡ s.top.slot
    by_test true e =
        let same : n ≡ machine.depth s = grind (arith, nat_tests) in
        let none : machine.depth s - n ≡ 0 = omega arith in
        ap (λ k. (get_or (machine.frames s) k s.top).slot) none
    by_test false e = refl

store_number_slot : (order : Order) (k x : ℕ) (place : Location) (s t : machine.State) → store_number order k x place s ≡ Some t → t.top.slot ≡ s.top.slot
unfolding store_number
store_number_slot order k x (InContext i) s t e = absurd (false≢true (ap is_some e))
store_number_slot order k x (InFrame n i) s t e = ap (λ z. z.top.slot) (sym (some_is (with_stack s n (with_bytes (bytes_of order k x) i (stack_of s n))) t e)) ∙ with_stack_slot s n (with_bytes (bytes_of order k x) i (stack_of s n))

store_pointer_slot : (region : Region) (off : ℤ) (place : Location) (s t : machine.State) → store_pointer region off place s ≡ Some t → t.top.slot ≡ s.top.slot
unfolding store_pointer
store_pointer_slot region off (InContext i) s t e = absurd (false≢true (ap is_some e))
store_pointer_slot region off (InFrame n i) s t e = by_test (i % 8 == 0) e
  where
    by_test : (b : Bool) → cond b (Some (with_stack s n (with_parts region off i (stack_of s n)))) None ≡ Some t → t.top.slot ≡ s.top.slot
    by_test true e = ap (λ z. z.top.slot) (sym (some_is (with_stack s n (with_parts region off i (stack_of s n))) t e)) ∙ with_stack_slot s n (with_parts region off i (stack_of s n))
    by_test false e = absurd (false≢true (ap is_some e))

store_slot : (order : Order) (size : Size) (v : Value) (place : Location) (s t : machine.State) → store order size v place s ≡ Some t → t.top.slot ≡ s.top.slot
store_slot order size (Number x) place s t e = store_number_slot order (byte_count size) x place s t e
store_slot order DW (Pointer region off) place s t e = store_pointer_slot region off place s t e
store_slot order B (Pointer region off) place s t e = absurd (false≢true (ap is_some e))
store_slot order H (Pointer region off) place s t e = absurd (false≢true (ap is_some e))
store_slot order W (Pointer region off) place s t e = absurd (false≢true (ap is_some e))

fetched_slot : (r : Option Reg) (old : ℕ) (s t : machine.State) → fetched r old s ≡ Some t → t.top.slot ≡ s.top.slot
fetched_slot None old s t e = ap (λ z. z.top.slot) (sym (some_is s t e))
fetched_slot (Some r) old s t e = put_slot r (Number old) s t e

-- a fact on what a chain gives
chain : {A : Type 0} (n : ℕ) (m' : machine.State) (o : Option A) (f : A → Option machine.State) → ((a : A) → f a ≡ Some m' → m'.top.slot ≡ n) → option_and_then f o ≡ Some m' → m'.top.slot ≡ n
chain n m' None f h e = absurd (false≢true (ap is_some e))
chain n m' (Some a) f h e = h a e

-- each plain instruction but a jump goes on at the next slot
plain_next : (order : Order) (i : Insn) (m m' : machine.State) → abstract.IsPlain i → distance i ≡ None → does order i m ≡ Some m' → m'.top.slot ≡ m.top.slot + slot_count i
unfolding does
plain_next order (Alu op width dst src) m m' plain none e =
    let n = m.top.slot + slot_count (Alu op width dst src) in
    chain n m' (operand m src) _ (λ b. chain n m' (alu_result width op (machine.register m dst) b) _ (λ v. put_slot dst v (next (Alu op width dst src) m) m')) e
plain_next order (Neg width dst) m m' plain none e =
    let n = m.top.slot + slot_count (Neg width dst) in
    chain n m' (machine.number_of_register m dst) _ (λ a. put_slot dst _ (next (Neg width dst) m) m') e
plain_next order (MovSx width bits dst src) m m' plain none e =
    let n = m.top.slot + slot_count (MovSx width bits dst src) in
    chain n m' (machine.number_of_register m src) _ (λ a. put_slot dst _ (next (MovSx width bits dst src) m) m') e
plain_next order (End kind bits dst) m m' plain none e =
    let n = m.top.slot + slot_count (End kind bits dst) in
    chain n m' (machine.number_of_register m dst) _ (λ a. put_slot dst _ (next (End kind bits dst) m) m') e
plain_next order (LoadImm64 dst value) m m' plain none e = put_slot dst (Number value) (next (LoadImm64 dst value) m) m' e
plain_next order (Load size dst src off) m m' plain none e =
    let n = m.top.slot + slot_count (Load size dst src off) in
    chain n m' (machine.register m src) _ (λ base. chain n m' (location_of m (byte_count size) off base) _ (λ at. chain n m' (load order m size at) _ (λ v. put_slot dst v (next (Load size dst src off) m) m'))) e
plain_next order (LoadSx size dst src off) m m' plain none e =
    let n = m.top.slot + slot_count (LoadSx size dst src off) in
    chain n m' (machine.register m src) _ (λ base. chain n m' (location_of m (byte_count size) off base) _ (λ at. chain n m' (load_extended order m size at) _ (λ v. put_slot dst v (next (LoadSx size dst src off) m) m'))) e
plain_next order (Store size dst off src) m m' plain none e =
    let n = m.top.slot + slot_count (Store size dst off src) in
    chain n m' (machine.register m dst) _ (λ base. chain n m' (machine.register m src) _ (λ v. chain n m' (location_of m (byte_count size) off base) _ (λ at. store_slot order size v at (next (Store size dst off src) m) m'))) e
plain_next order (StoreImm size dst off imm) m m' plain none e =
    let n = m.top.slot + slot_count (StoreImm size dst off imm) in
    chain n m' (machine.register m dst) _ (λ base. chain n m' (location_of m (byte_count size) off base) _ (λ at. store_slot order size (Number (extended imm)) at (next (StoreImm size dst off imm) m) m')) e
plain_next order (Atomic wide op dst off src) m m' plain none e =
    let n = m.top.slot + slot_count (Atomic wide op dst off src) in
    let size = byte_count (word_size wide) in
    let on = next (Atomic wide op dst off src) m in
    chain n m' (machine.register m dst) _
    (λ base. chain n m' (machine.number_of_register m src) _
    (λ x. chain n m' (location_of m size off base) _
    (λ at. chain n m' (number_at order m size at) _
    (λ old. chain n m' (atomic_result op (word_size wide) old x (machine.number_of_register m R0)) _
    (λ new. chain_state n m' (store_number order size new at on) _ (λ t h. store_number_slot order size new at on t h) (λ t h. fetched_slot (fetch_register op src) old t m' h)))))) e
  where
    chain_state : (n : ℕ) (m' : machine.State) (o : Option machine.State) (f : machine.State → Option machine.State) → ((t : machine.State) → o ≡ Some t → t.top.slot ≡ n) → ((t : machine.State) → f t ≡ Some m' → m'.top.slot ≡ t.top.slot) → option_and_then f o ≡ Some m' → m'.top.slot ≡ n
    chain_state n m' None f g h e = absurd (false≢true (ap is_some e))
    chain_state n m' (Some t) f g h e = h t e ∙ g t refl
plain_next order (Ja off) m m' plain none e = absurd (true≢false (ap is_some none))
plain_next order (JaLong off) m m' plain none e = absurd (true≢false (ap is_some none))
plain_next order (JumpIf cond width dst src off) m m' plain none e = absurd plain
plain_next order (CallLocal off) m m' plain none e = absurd plain
plain_next order Exit m m' plain none e = absurd plain

jumps_to : (m m' : machine.State) (off : ℤ) → jump m off ≡ Some m' → target m.top.slot off ≡ Some m'.top.slot
jumps_to m m' off e = by_target (target m.top.slot off) e
  where
    by_target : (o : Option ℕ) → option_map (λ slot. machine.at_slot slot m) o ≡ Some m' → o ≡ Some m'.top.slot
    by_target None e = absurd (false≢true (ap is_some e))
    by_target (Some t) e = ap (λ z. Some z.top.slot) (some_is (machine.at_slot t m) m' e)

pub record Branches (cond' : Cond) (width : Width) (dst : Reg) (src : Operand) (off : ℤ) (m m' : machine.State) : Type 0 where
  pub taken : Bool
  pub tests : abstract.Tests m (JumpIf cond' width dst src off) taken
  pub goes : cond taken (jump m off) (Some (next (JumpIf cond' width dst src off) m)) ≡ Some m'

branches : (order : Order) (cond' : Cond) (width : Width) (dst : Reg) (src : Operand) (off : ℤ) (m m' : machine.State) → does order (JumpIf cond' width dst src off) m ≡ Some m' → Branches cond' width dst src off m m'
unfolding does
branches order cond' width dst src off m m' e =
    let first = chained (machine.register m dst) _ m' e in
    let second = chained (operand m src) _ m' first.rest in
    let third = chained (test_of_values width cond' first.value second.value) _ m' second.rest in
    record {
      taken = third.value;
      tests = ap (λ o. option_and_then (λ a. option_and_then (λ b. test_of_values width cond' a b) (operand m src)) o) first.is_there ∙ ap (λ o. option_and_then (λ b. test_of_values width cond' first.value b) o) second.is_there ∙ third.is_there;
      goes = third.rest;
    }

ja_jumps : (order : Order) (off : ℤ) (m m' : machine.State) → does order (Ja off) m ≡ Some m' → jump m off ≡ Some m'
unfolding does
ja_jumps order off m m' e = e

ja_long_jumps : (order : Order) (off : ℤ) (m m' : machine.State) → does order (JaLong off) m ≡ Some m' → jump m off ≡ Some m'
unfolding does
ja_long_jumps order off m m' e = e

module _ (laws : Laws) (p : Instructions) (c : CertificateView) (x : List ℕ) where
  branch_moves : (cond' : Cond) (width : Width) (dst : Reg) (src : Operand) (off : ℤ) (s : AbstractState) (m m' : machine.State) → abstract.IsJudged p c.least c.most x (JumpIf cond' width dst src off) s m → Step p m m' → Branches cond' width dst src off m m' → GoesNext p c x (JumpIf cond' width dst src off) s m m' ⊎ Jumps p c x (JumpIf cond' width dst src off) s m m'
  branch_moves cond' width dst src off s m m' judged step b = by_taken b.taken b.tests b.goes
    where
      by_taken : (taken : Bool) → abstract.Tests m (JumpIf cond' width dst src off) taken → cond taken (jump m off) (Some (next (JumpIf cond' width dst src off) m)) ≡ Some m' → GoesNext p c x (JumpIf cond' width dst src off) s m m' ⊎ Jumps p c x (JumpIf cond' width dst src off) s m m'
      by_taken true tests goes = inr (record { to = jumps_to m m' off goes; leads = laws.branch_keeps p c.least c.most x (JumpIf cond' width dst src off) s m m' true judged tests step })
      by_taken false tests goes = inl (record { to = ap (λ z. z.top.slot) (sym (some_is (next (JumpIf cond' width dst src off) m) m' goes)); leads = laws.branch_keeps p c.least c.most x (JumpIf cond' width dst src off) s m m' false judged tests step })

  pub moves : (i : Insn) (s : AbstractState) (m m' : machine.State) → abstract.IsJudged p c.least c.most x i s m → ((off : ℤ) → i ≡ CallLocal off → ⊥) → (i ≡ Exit → ⊥) → Step p m m' → GoesNext p c x i s m m' ⊎ Jumps p c x i s m m'
  moves (JumpIf cond' width dst src off) s m m' judged no_call no_exit step = branch_moves cond' width dst src off s m m' judged step (branches p.order cond' width dst src off m m' (does_at p m m' (JumpIf cond' width dst src off) judged.stands step))
  moves (CallLocal off) s m m' judged no_call no_exit step = absurd (no_call off refl)
  moves Exit s m m' judged no_call no_exit step = absurd (no_exit refl)
  moves (Ja off) s m m' judged no_call no_exit step = inr (record { to = jumps_to m m' off (ja_jumps p.order off m m' (does_at p m m' (Ja off) judged.stands step)); leads = laws.step_keeps p c.least c.most x (Ja off) s m m' judged tt step })
  moves (JaLong off) s m m' judged no_call no_exit step = inr (record { to = jumps_to m m' off (ja_long_jumps p.order off m m' (does_at p m m' (JaLong off) judged.stands step)); leads = laws.step_keeps p c.least c.most x (JaLong off) s m m' judged tt step })
  moves i s m m' judged no_call no_exit step = inl (record { to = plain_next p.order i m m' tt refl (does_at p m m' i judged.stands step); leads = laws.step_keeps p c.least c.most x i s m m' judged tt step })

-- ---- calls and returns

-- a CALL goes to its target, and the frame waits for the next instruction
pub record Enters (m m1 : machine.State) (off : ℤ) : Type 0 where
  pub to : target m.top.slot off ≡ Some m1.top.slot
  pub caller : machine.StackFrame
  pub waiting : m1.waiting ≡ caller ∷ m.waiting
  pub caller_slot : caller.slot ≡ m.top.slot + 1

enters_at : (order : Order) (off : ℤ) (m m1 : machine.State) → does order (CallLocal off) m ≡ Some m1 → Enters m m1 off
unfolding does
enters_at order off m m1 e = by_test (nat_lt (machine.depth m + 1) machine.max_frames) (target m.top.slot off) refl e
  where
    by_test : (b : Bool) (o : Option ℕ) → target m.top.slot off ≡ o → cond b (option_map (entered m) o) None ≡ Some m1 → Enters m m1 off
    by_test false o t e = absurd (false≢true (ap is_some e))
    by_test true None t e = absurd (false≢true (ap is_some e))
    by_test true (Some slot) t e =
        let same = some_is (entered m slot) m1 e in
        record { to = t ∙ ap (λ z. Some z.top.slot) same; caller = record { slot = m.top.slot + 1; registers = saved m.top.registers; stack = m.top.stack }; waiting = ap (λ z. z.waiting) (sym same); caller_slot = refl }

pub enters : (p : Instructions) (off : ℤ) (m m1 : machine.State) → insn_at p.list m.top.slot ≡ Some (CallLocal off) → Step p m m1 → Enters m m1 off
enters p off m m1 e step = enters_at p.order off m m1 (does_at p m m1 (CallLocal off) e step)

-- EXIT goes back to the frame that waits
pub record Leaves (p : Instructions) (m2 : machine.State) (caller : machine.StackFrame) (waiting : List machine.StackFrame) : Type 0 where
  pub state : machine.State
  pub step : Step p m2 state
  pub to : state.top.slot ≡ caller.slot
  pub waiting_is : state.waiting ≡ waiting

pub leaves : (p : Instructions) (m2 : machine.State) (caller : machine.StackFrame) (waiting : List machine.StackFrame) (v : ℕ) → insn_at p.list m2.top.slot ≡ Some Exit → m2.waiting ≡ caller ∷ waiting → machine.number_of_register m2 R0 ≡ Some v → Leaves p m2 caller waiting
unfolding step_of does
leaves p m2 caller waiting v e w r =
    record {
      state = record { top = record { slot = caller.slot; registers = Some (Number v) ∷ drop 1 (saved caller.registers); stack = caller.stack }; waiting = waiting; context = m2.context };
      step = ap (λ o. option_and_then (λ j. does p.order j m2) o) e ∙ ap (λ o. option_and_then (λ n. left m2.waiting n m2.context) o) r ∙ ap (λ fs. left fs v m2.context) w;
      to = refl;
      waiting_is = refl;
    }
