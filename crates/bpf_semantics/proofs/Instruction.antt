-- What an instruction does on the packet, it does inside of the block.
use Rattle.std.proofs.Common.{◌≡◌, ℕ, ◌<◌, ◌^◌, Bool, true, false, List, Option, Some, None, length, refl, sym, ap, ◌∙◌, subst}
use Rattle.std.specs.Prelude.{ℤ, option_and_then, option_map, FitsSigned, if◌then◌else◌}
use Rattle.std.specs.Int.{w16, cast_signed}
use Rattle.std.proofs.lemmas.Option.{same_Some, none-some, option_and_then_some}
use Rattle.bpf_insn.specs.Arithmetic.{modulo, alu, extended, sign_extend, swapped}
use Rattle.bpf_insn.specs.Effects.{Access, access_of, fetch_register}
use Rattle.bpf_insn.specs.Image.{HasEncoding}
use Rattle.bpf_insn.specs.Instruction.{byte_count, word_size}
use Rattle.bpf_insn.specs.declared.order.Order.{Order}
use Rattle.bpf_insn.specs.declared.instruction.Reg.{Reg}
use Rattle.bpf_insn.specs.declared.instruction.Reg.TheVariants.{R0}
use Rattle.bpf_insn.specs.declared.instruction.Size.{Size}
use Rattle.bpf_insn.specs.declared.instruction.Size.TheVariants.{B, H, W, DW}
use Rattle.bpf_insn.specs.declared.instruction.AluOp.TheVariants.{Sub}
use Rattle.bpf_insn.specs.declared.instruction.Insn.{Insn}
use Rattle.bpf_insn.specs.declared.instruction.Insn.TheVariants.{Alu, Neg, MovSx, End, LoadImm64, Load, LoadSx, Store, StoreImm, Atomic, Ja, JaLong, JumpIf, CallLocal, Exit}
use Rattle.bpf_semantics.specs.State.{State, IsState, register, number_of_register, put}
use Rattle.bpf_semantics.specs.Memory.{Location, location_of, number_at, store_number}
use Rattle.bpf_semantics.specs.Step.{does, next, operand, alu_result, test_of_values, load, load_extended, store, size_type, atomic_result, fetched, jump}
use Rattle.bpf_semantics.specs.declared.value.Value.{Value}
use Rattle.bpf_semantics.specs.declared.value.Value.TheVariants.{Number}
use Rattle.bpf_semantics.proofs.StateLemmas.{value_fits, operand_value_fits}
use Rattle.bpf_semantics.specs.Blocks.{inside_value, inside}
use Rattle.bpf_semantics.proofs.Values.{result_inside, test_inside}
use Rattle.bpf_semantics.proofs.States.{moved_value, register_inside, number_register_inside, operand_inside, put_inside, fetched_inside, jump_inside, call_inside, left_inside}
use Rattle.bpf_semantics.proofs.Head.{Holds}
use Rattle.bpf_semantics.proofs.Places.{inside_location, Reached, reached, number_at_inside, load_inside, store_number_inside, store_inside}

bind : {A B : Type 0} (f : A → Option B) (o : Option A) (x : A) (y : Option B) → o ≡ Some x → f x ≡ y → option_and_then f o ≡ y
bind f o x y e h = ap (option_and_then f) e ∙ h

-- the displacement of an access has 16 bits
pub access_near : (i : Insn) (a : Access) → HasEncoding i → access_of i ≡ Some a → FitsSigned w16 a.offset
access_near (Load size dst src off) a enc e = subst (λ (a : Access). FitsSigned w16 a.offset) (same_Some _ _ e) enc
access_near (LoadSx B dst src off) a enc e = subst (λ (a : Access). FitsSigned w16 a.offset) (same_Some _ _ e) enc
access_near (LoadSx H dst src off) a enc e = subst (λ (a : Access). FitsSigned w16 a.offset) (same_Some _ _ e) enc
access_near (LoadSx W dst src off) a enc e = subst (λ (a : Access). FitsSigned w16 a.offset) (same_Some _ _ e) enc
access_near (LoadSx DW dst src off) a enc e = absurd enc
access_near (Store size dst off src) a enc e = subst (λ (a : Access). FitsSigned w16 a.offset) (same_Some _ _ e) enc
access_near (StoreImm size dst off imm) a enc e = subst (λ (a : Access). FitsSigned w16 a.offset) (same_Some _ _ e) enc.0
access_near (Atomic wide op dst off src) a enc e = subst (λ (a : Access). FitsSigned w16 a.offset) (same_Some _ _ e) enc
access_near i a enc e = absurd (none-some _ e)

module _ (block : List ℕ) (s t : State) (state : IsState s) (h : Holds s.context block) (few : length s.context < 2 ^ 32) where
  -- ---- what an instruction reads and writes, one by one

  abbrev Inside : Option State → Type 0
  Inside o = o ≡ Some (inside block t)

  with_register_of : (r : Reg) (v : Value) (f : Value → Option State) → register s r ≡ Some v → Inside (f (inside_value v)) → Inside (option_and_then f (register (inside block s) r))
  with_register_of r v f e = bind f (register (inside block s) r) (inside_value v) _ (register_inside block s r ∙ ap moved_value e)

  with_number_of : (r : Reg) (n : ℕ) (f : ℕ → Option State) → number_of_register s r ≡ Some n → Inside (f n) → Inside (option_and_then f (number_of_register (inside block s) r))
  with_number_of r n f e = bind f (number_of_register (inside block s) r) n _ (number_register_inside block s r ∙ e)

  puts : (i : Insn) (r : Reg) (v : Value) → put r v (next i s) ≡ Some t → Inside (put r (inside_value v) (next i (inside block s)))
  puts i r v e = put_inside block r v (next i s) ∙ ap (option_map (inside block)) e

  jumps_inside : (off : ℤ) → jump s off ≡ Some t → Inside (jump (inside block s) off)
  jumps_inside off e = jump_inside block s off ∙ ap (option_map (inside block)) e

  branches : (b : Bool) (off : ℤ) (i : Insn) → (if b then jump s off else Some (next i s)) ≡ Some t → Inside (if b then jump (inside block s) off else Some (next i (inside block s)))
  branches true off i e = jumps_inside off e
  branches false off i e = ap (option_map (inside block)) e

  -- an access, by what is done at the place
  at_place : (k : ℕ) (off : ℤ) (r : Reg) (base : Value) (f : Location → Option State) (g : Location → Option State) → FitsSigned w16 off → register s r ≡ Some base
      → ((at : Location) → Reached block s k off base at → f at ≡ Some t → Inside (g (inside_location at)))
      → option_and_then f (location_of s k off base) ≡ Some t → Inside (option_and_then g (location_of (inside block s) k off (inside_value base)))
  at_place k off r base f g near eb does_there e = option_and_then_some f (location_of s k off base) t e (λ at el e1.
      let place : Reached block s k off base at = reached block s h few k off base at near el in
      bind g (location_of (inside block s) k off (inside_value base)) (inside_location at) _ place.there (does_there at place e1))

  -- a load puts what is there, moved
  loads : (i : Insn) (k : ℕ) (dst src : Reg) (off : ℤ) (f g : Location → Option Value) → FitsSigned w16 off
      → ((base : Value) (at : Location) → Reached block s k off base at → g (inside_location at) ≡ moved_value (f at))
      → option_and_then (λ base. option_and_then (λ at. option_and_then (λ v. put dst v (next i s)) (f at)) (location_of s k off base)) (register s src) ≡ Some t
      → Inside (option_and_then (λ base. option_and_then (λ at. option_and_then (λ v. put dst v (next i (inside block s))) (g at)) (location_of (inside block s) k off base)) (register (inside block s) src))
  loads i k dst src off f g near same e = option_and_then_some _ (register s src) t e (λ base eb e1. with_register_of src base _ eb
      (at_place k off src base _ _ near eb (λ at place e2. option_and_then_some _ (f at) t e2 (λ v ev e3. bind _ (g (inside_location at)) (inside_value v) _ (same base at place ∙ ap moved_value ev) (puts i dst v e3))) e1))

  stores : (order : Order) (size : Size) (v : Value) (i : Insn) (base : Value) (dst : Reg) (off : ℤ) → FitsSigned w16 off → register s dst ≡ Some base
      → option_and_then (λ at. store order size v at (next i s)) (location_of s (byte_count size) off base) ≡ Some t
      → Inside (option_and_then (λ at. store order size (inside_value v) at (next i (inside block s))) (location_of (inside block s) (byte_count size) off (inside_value base)))
  stores order size v i base dst off near eb e = at_place (byte_count size) off dst base _ _ near eb (λ at place e1. store_inside block order size v at (next i s) ∙ ap (option_map (inside block)) e1) e

  -- ---- the instructions

  atomics : (order : Order) (i : Insn) (k : ℕ) (off : ℤ) (dst : Reg) (base : Value) (r0 : ℕ → Option ℕ) (fetches : Option Reg) → FitsSigned w16 off → register s dst ≡ Some base
      → option_and_then (λ at. option_and_then (λ old. option_and_then (λ new. option_and_then (fetched fetches old) (store_number order k new at (next i s))) (r0 old)) (number_at order s k at)) (location_of s k off base) ≡ Some t
      → Inside (option_and_then (λ at. option_and_then (λ old. option_and_then (λ new. option_and_then (fetched fetches old) (store_number order k new at (next i (inside block s)))) (r0 old)) (number_at order (inside block s) k at)) (location_of (inside block s) k off (inside_value base)))
  atomics order i k off dst base r0 fetches near eb e = at_place k off dst base _ _ near eb
      (λ at place e1. option_and_then_some _ (number_at order s k at) t e1 (λ old eo e2. option_and_then_some _ (r0 old) t e2 (λ new en e3. option_and_then_some _ (store_number order k new at (next i s)) t e3 (λ after ea e4.
      bind _ (number_at order (inside block s) k (inside_location at)) old _ (number_at_inside block order s k at h place.bytes ∙ eo)
      (bind _ (r0 old) new _ en
      (bind _ (store_number order k new (inside_location at) (next i (inside block s))) (inside block after) _ (store_number_inside block order k new at (next i s) ∙ ap (option_map (inside block)) ea)
      (fetched_inside block fetches old after ∙ ap (option_map (inside block)) e4))))))) e

  pub does_inside : (order : Order) (i : Insn) → HasEncoding i → does order i s ≡ Some t → Inside (does order i (inside block s))
  unfolding does
  does_inside order (Alu op width dst src) enc e = option_and_then_some _ (operand s src) t e (λ b eb e1. option_and_then_some _ (alu_result width op (register s dst) b) t e1 (λ v ev e2.
      bind _ (operand (inside block s) src) (inside_value b) _ (operand_inside block s src ∙ ap moved_value eb)
      (bind _ (alu_result width op (register (inside block s) dst) (inside_value b)) (inside_value v) _
      (ap (λ o. alu_result width op o (inside_value b)) (register_inside block s dst) ∙ result_inside width op (register s dst) b ∙ ap moved_value ev)
      (puts (Alu op width dst src) dst v e2))))
  does_inside order (Neg width dst) enc e = option_and_then_some _ (number_of_register s dst) t e (λ a ea e1. with_number_of dst a _ ea (puts (Neg width dst) dst (Number (alu width Sub 0 a)) e1))
  does_inside order (MovSx width bits dst src) enc e = option_and_then_some _ (number_of_register s src) t e (λ b eb e1. with_number_of src b _ eb (puts (MovSx width bits dst src) dst (Number (sign_extend bits width b)) e1))
  does_inside order (End kind bits dst) enc e = option_and_then_some _ (number_of_register s dst) t e (λ a ea e1. with_number_of dst a _ ea (puts (End kind bits dst) dst (Number (swapped order kind bits a)) e1))
  does_inside order (LoadImm64 dst value) enc e = puts (LoadImm64 dst value) dst (Number value) e
  does_inside order (Load size dst src off) enc e = loads (Load size dst src off) (byte_count size) dst src off (load order s size) (load order (inside block s) size) enc (λ base at place. load_inside block order s size at h place.bytes) e
  does_inside order (LoadSx size dst src off) enc e =
      let i : Insn = LoadSx size dst src off in
      loads i (byte_count size) dst src off (load_extended order s size) (load_extended order (inside block s) size) (access_near i _ enc refl)
      (λ base at place. ap (option_map (λ x. Number (modulo (cast_signed (size_type size) x) (2 ^ 64)))) (number_at_inside block order s (byte_count size) at h place.bytes) ∙ numbers (λ x. modulo (cast_signed (size_type size) x) (2 ^ 64)) (number_at order s (byte_count size) at)) e
    where
      numbers : (f : ℕ → ℕ) (o : Option ℕ) → option_map (λ x. Number (f x)) o ≡ moved_value (option_map (λ x. Number (f x)) o)
      numbers f None = refl
      numbers f (Some x) = refl
  does_inside order (Store size dst off src) enc e = option_and_then_some _ (register s dst) t e (λ base eb e1. option_and_then_some _ (register s src) t e1 (λ v ev e2.
      with_register_of dst base _ eb (with_register_of src v _ ev (stores order size v (Store size dst off src) base dst off enc eb e2))))
  does_inside order (StoreImm size dst off imm) enc e = option_and_then_some _ (register s dst) t e (λ base eb e1. with_register_of dst base _ eb (stores order size (Number (extended imm)) (StoreImm size dst off imm) base dst off enc.0 eb e1))
  does_inside order (Atomic wide op dst off src) enc e =
      let size : Size = word_size wide in
      let k : ℕ = byte_count size in
      let i : Insn = Atomic wide op dst off src in
      option_and_then_some _ (register s dst) t e (λ base eb e1. option_and_then_some _ (number_of_register s src) t e1 (λ x ex e2. with_register_of dst base _ eb (with_number_of src x _ ex
      (subst (λ r0. Inside (option_and_then (λ at. option_and_then (λ old. option_and_then (λ new. option_and_then (fetched (fetch_register op src) old) (store_number order k new at (next i (inside block s)))) (atomic_result op size old x r0)) (number_at order (inside block s) k at)) (location_of (inside block s) k off (inside_value base))))
      (sym (number_register_inside block s R0))
      (atomics order i k off dst base (λ old. atomic_result op size old x (number_of_register s R0)) (fetch_register op src) enc eb e2)))))
  does_inside order (Ja off) enc e = jumps_inside off e
  does_inside order (JaLong off) enc e = jumps_inside off e
  does_inside order (JumpIf cond width dst src off) enc e = option_and_then_some _ (register s dst) t e (λ a ea e1. option_and_then_some _ (operand s src) t e1 (λ b eb e2. option_and_then_some _ (test_of_values width cond a b) t e2 (λ taken et e3.
      with_register_of dst a _ ea (bind _ (operand (inside block s) src) (inside_value b) _ (operand_inside block s src ∙ ap moved_value eb)
      (bind _ (test_of_values width cond (inside_value a) (inside_value b)) taken _ (test_inside width cond a b (value_fits state dst a ea) (operand_value_fits state src b eb) ∙ et) (branches taken off (JumpIf cond width dst src off) e3))))))
  does_inside order (CallLocal off) enc e = call_inside block s off ∙ ap (option_map (inside block)) e
  does_inside order Exit enc e = option_and_then_some _ (number_of_register s R0) t e (λ v ev e1. with_number_of R0 v _ ev (left_inside block s.waiting v s.context ∙ ap (option_map (inside block)) e1))
