-- The edges of a conditional jump.
use Rattle.std.proofs.Common.{◌≡◌, ℕ, ℤ, ◌+◌, ◌<◌, refl, sym, ◌∙◌, ap, subst, arith, List, length, get_or, set, inl, inr, Option, Some, None, Bool, true, false, cond}
use Rattle.std.specs.Prelude.{option_map, option_and_then}
use Rattle.std.proofs.lemmas.Bool.{cases_eq}
use Rattle.std.proofs.lemmas.List.{get_or-set_same, get_or-set_other, length-set, set-get_or}
use Rattle.std.proofs.lemmas.Option.{same_Some, option_and_then_some}
use Rattle.bpf_insn.specs.declared.instruction.Reg.{Reg}
use Rattle.bpf_insn.specs.declared.instruction.Operand.{Operand}
use Rattle.bpf_insn.specs.declared.instruction.Operand.TheVariants.{Imm, Reg as FromReg}
use Rattle.bpf_insn.specs.declared.instruction.Width.{Width}
use Rattle.bpf_insn.specs.declared.instruction.Cond.{Cond}
use Rattle.bpf_insn.specs.declared.instruction.Insn.TheVariants.{JumpIf}
use Rattle.bpf_insn.specs.declared.order.Order.{Order}
use Rattle.bpf_semantics.specs.declared.value.Value.TheVariants.{Number as NumberValue}
use Rattle.bpf_insn.specs.Arithmetic.{jumps}
use Rattle.bpf_insn.specs.Instruction.{register_number}
use Rattle.bpf_insn.proofs.RegisterLemmas.{reg_below}
use Rattle.bpf_semantics.specs.State as machine
use Rattle.bpf_semantics.specs.Step.{does, next, jump, test_of_values, operand as machine_operand}
use Rattle.bpf_num.specs.Number.{Number, IsNumber, Has}
use Rattle.bpf_num.specs.Refine.{refine}
use Rattle.bpf_num.specs.Laws.{ConstantHas, RefineKeeps}
use Rattle.bpf_state.specs.declared.known.RegState.{RegState}
use Rattle.bpf_state.specs.declared.known.RegState.TheVariants.{Any, Num}
use Rattle.bpf_state.specs.State.{AbstractState, register, register_tag, IsAbstract, IsAbstractRegister}
use Rattle.bpf_state.specs.Fault.{operand}
use Rattle.bpf_state.specs.Transfer.{refined, is_register, refine_register, refine_operand}
use Rattle.bpf_safety.specs.Describes.{Describes, DescribesRegister, TaggedRegister}
use Rattle.bpf_safety.specs.Laws.{Leads, Tests, BranchKeeps}
use Rattle.bpf_safety.proofs.Judged.{step_is, leads_at}
use Rattle.bpf_safety.proofs.Lists.{Given}
use Rattle.bpf_safety.proofs.Operands.{operand_describes, operand_valid}
use Rattle.bpf_safety.proofs.PlainLaws.{at_slot_keeps, jump_slot}

-- ---- the machine goes on at another slot

branch_slot : (order : Order) (test : Cond) (width : Width) (dst : Reg) (src : Operand) (off : ℤ) (m m' : machine.State) → does order (JumpIf test width dst src off) m ≡ Some m' → (sl : ℕ) × (machine.at_slot sl m ≡ m')
unfolding does
branch_slot order test width dst src off m m' did =
    let go : Bool → Option machine.State = λ taken. cond taken (jump m off) (Some (next (JumpIf test width dst src off) m)) in
    option_and_then_some (λ a. option_and_then (λ b. option_and_then go (test_of_values width test a b)) (machine_operand m src)) (machine.register m dst) m' did
    (λ a _ did. option_and_then_some (λ b. option_and_then go (test_of_values width test a b)) (machine_operand m src) m' did
    (λ b _ did. option_and_then_some go (test_of_values width test a b) m' did (λ taken _ did. by_edge taken did)))
  where
    by_edge : (taken : Bool) → cond taken (jump m off) (Some (next (JumpIf test width dst src off) m)) ≡ Some m' → (sl : ℕ) × (machine.at_slot sl m ≡ m')
    by_edge true h = jump_slot off m m' h
    by_edge false h = (m.top.slot + 1, same_Some (next (JumpIf test width dst src off) m) m' h)

-- ---- what is known of a register is replaced, and the machine stays as it is

one_set : {A : Type 0} (P : A → ℕ → Type 0) (xs : List A) (k j : ℕ) (a d : A) → k < length xs → P a k → P (get_or xs j d) j → P (get_or (set xs k a) j d) j
one_set P xs k j a d fits new old =
    elim (cases_eq j k) [
      | inl e ↦ subst (λ n. P (get_or (set xs k a) n d) n) (sym e) (subst (λ u. P u k) (sym (get_or-set_same xs k a d fits)) new)
      | inr other ↦ subst (λ u. P u j) (sym (get_or-set_other xs k j a d other)) old
    ]

-- the machine is described by a state
abbrev Is : Order → ℕ → ℕ → List ℕ → machine.State → AbstractState → Type 0
Is order least most x m s = IsAbstract s × Describes order least most x s m

module _ (order : Order) (least most : ℕ) (x : List ℕ) (m : machine.State) where
  register_refined : (s : AbstractState) (r : Reg) (n : Number) (y : ℕ) → Is order least most x m s → machine.register m r ≡ Some (NumberValue y) → IsNumber n → Has n y → Is order least most x m (refine_register r n s)
  register_refined s r n y is e valid has =
      let ok = is.0 in
      let d = is.1 in
      let k : ℕ = register_number r in
      let eleven = ok.eleven in
      let lt = reg_below r in
      let same : set s.register_tags k (register_tag s r) ≡ s.register_tags = set-get_or s.register_tags k None in (
        record {
          eleven = length-set s.registers k (Num n) ∙ ok.eleven;
          slots_are = ok.slots_are;
          eleven_tags = ap length same ∙ ok.eleven_tags;
          slot_tags_are = ok.slot_tags_are;
          registers = λ q. one_set (λ R j. IsAbstractRegister R) s.registers k (register_number q) (Num n) Any (omega arith) valid (ok.registers q);
          slots = ok.slots;
        },
        record {
          length_within = d.length_within;
          registers = λ q. one_set (λ R j. DescribesRegister (machine.depth m) R (get_or m.top.registers j None)) s.registers k (register_number q) (Num n) Any (omega arith) (y, e, has) (d.registers q);
          slots = d.slots;
          register_tags = λ q. subst (λ ts. TaggedRegister x (get_or ts (register_number q) None) (machine.register m q)) (sym same) (d.register_tags q);
          slot_tags = d.slot_tags;
        },
      )

  operand_refined : (s : AbstractState) (src : Operand) (n : Number) (y : ℕ) → Is order least most x m s → machine_operand m src ≡ Some (NumberValue y) → IsNumber n → Has n y → Is order least most x m (refine_operand src n s)
  operand_refined s (FromReg r) n y is e valid has = register_refined s r n y is e valid has
  operand_refined s (Imm imm) n y is e valid has = is

  -- both operands hold numbers
  numbers_refined : RefineKeeps → (s : AbstractState) (test : Cond) (width : Width) (dst : Reg) (src : Operand) (taken : Bool) (a b : Number) → Is order least most x m s → IsNumber a → DescribesRegister (machine.depth m) (Num a) (machine.register m dst) → IsNumber b → DescribesRegister (machine.depth m) (Num b) (machine_operand m src) → option_and_then (λ a. option_and_then (λ b. test_of_values width test a b) (machine_operand m src)) (machine.register m dst) ≡ Some taken → Given (option_map (λ p. refine_operand src p.1 (refine_register dst p.0 s)) (refine test width taken a b)) (Is order least most x m)
  numbers_refined law s test width dst src taken a b is ok d ok' d' tests =
      let y : ℕ = d.0 in
      let z : ℕ = d'.0 in
      let answers : Some (jumps width test y z) ≡ Some taken =
      sym (ap (λ o. option_and_then (λ a. option_and_then (λ b. test_of_values width test a b) (machine_operand m src)) o) d.1 ∙ ap (λ o. option_and_then (λ b. test_of_values width test (NumberValue y) b) o) d'.1) ∙ tests in
      let h = law test width taken a b y z (ok, d.2) (ok', d'.2) (same_Some (jumps width test y z) taken answers) in
      record {
        value = refine_operand src h.sets.1 (refine_register dst h.sets.0 s);
        is_there = ap (λ o. option_map (λ p. refine_operand src p.1 (refine_register dst p.0 s)) o) h.are_there;
        good = operand_refined (refine_register dst h.sets.0 s) src h.sets.1 z (register_refined s dst h.sets.0 y is d.1 h.valid.0 h.have.0) d'.1 h.valid.1 h.have.1;
      }

  unchanged : (s : AbstractState) → Is order least most x m s → Given (Some s) (Is order least most x m)
  unchanged s is = record { value = s; is_there = refl; good = is }

  by_kinds : RefineKeeps → (s : AbstractState) (test : Cond) (width : Width) (dst : Reg) (src : Operand) (off : ℤ) (taken : Bool) (A B : RegState) → Is order least most x m s → IsAbstractRegister A → DescribesRegister (machine.depth m) A (machine.register m dst) → IsAbstractRegister B → DescribesRegister (machine.depth m) B (machine_operand m src) → Tests m (JumpIf test width dst src off) taken → Given (refined (JumpIf test width dst src off) taken A B s) (Is order least most x m)
  by_kinds law s test width dst src off taken (Num a) (Num b) is ok d ok' d' tests = by_registers (is_register dst src)
    where
      by_registers : (same : Bool) → Given (cond same (Some s) (option_map (λ p. refine_operand src p.1 (refine_register dst p.0 s)) (refine test width taken a b))) (Is order least most x m)
      by_registers true = unchanged s is
      by_registers false = numbers_refined law s test width dst src taken a b is ok d ok' d' tests
  by_kinds law s test width dst src off taken A B is ok d ok' d' tests = unchanged s is

pub branch_keeps : ConstantHas → RefineKeeps → BranchKeeps
branch_keeps constants law p least most x (JumpIf test width dst src off) s m m' taken j tests step =
    let d = j.described in
    let given =
    by_kinds p.order least most x m law s test width dst src off taken (register s dst) (operand s src) (j.valid, d) (j.valid.registers dst) (d.registers dst) (operand_valid constants s src j.valid) (operand_describes constants p.order least most x s m src d) tests in
    let to = branch_slot p.order test width dst src off m m' (step_is p m m' (JumpIf test width dst src off) j.stands step) in
    subst (λ o. Leads p least most x o m') (sym given.is_there)
    (leads_at p least most x (Some given.value) (machine.at_slot to.0 m) m' to.1 (at_slot_keeps p least most x given.value m to.0 given.good.0 given.good.1))
branch_keeps constants law p least most x i s m m' taken j tests step = absurd tests
