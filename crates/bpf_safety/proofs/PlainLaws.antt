-- The instructions that compute: moves, arithmetic, constants, jumps.
use Rattle.std.proofs.Common.{◌≡◌, ℕ, ℤ, refl, sym, ◌∙◌, ap, subst, List, Option, Some, None, true, false}
use Rattle.std.specs.Prelude.{not, option_map, option_and_then}
use Rattle.std.proofs.lemmas.Bool.{false≢true, or_parts, not-false}
use Rattle.std.proofs.lemmas.Option.{same_Some, option_and_then_some}
use Rattle.bpf_insn.specs.declared.instruction.Reg.{Reg}
use Rattle.bpf_insn.specs.declared.instruction.Operand.{Operand}
use Rattle.bpf_insn.specs.declared.instruction.Width.{Width}
use Rattle.bpf_insn.specs.declared.instruction.AluOp.{AluOp}
use Rattle.bpf_insn.specs.declared.instruction.AluOp.TheVariants.{Sub, Mov}
use Rattle.bpf_insn.specs.declared.instruction.SignBits.{SignBits}
use Rattle.bpf_insn.specs.declared.instruction.EndBits.{EndBits}
use Rattle.bpf_insn.specs.declared.instruction.EndKind.{EndKind}
use Rattle.bpf_insn.specs.declared.instruction.Insn.{Insn}
use Rattle.bpf_insn.specs.declared.instruction.Insn.TheVariants.{Alu, Neg, MovSx, End, LoadImm64, Ja, JaLong}
use Rattle.bpf_insn.specs.declared.order.Order.{Order}
use Rattle.bpf_semantics.specs.declared.value.Value.{Value}
use Rattle.bpf_semantics.specs.declared.value.Value.TheVariants.{Number as NumberValue}
use Rattle.bpf_insn.specs.Arithmetic.{alu, sign_extend, swapped}
use Rattle.bpf_insn.specs.Instruction.{Instructions, target}
use Rattle.bpf_semantics.specs.State as machine
use Rattle.bpf_semantics.specs.State.{put, number_in}
use Rattle.bpf_semantics.specs.Step.{Step, does, next, jump, alu_result, operand as machine_operand}
use Rattle.bpf_insn.specs.Effects.{register_written}
use Rattle.bpf_num.specs.Number.{Number, constant}
use Rattle.bpf_num.specs.Operation.{num_neg, num_movsx, num_end}
use Rattle.bpf_num.specs.Laws.{Member, Holds, ConstantHas, ConstantIs, TightenKeeps, AluKeeps, NegKeeps, MovsxKeeps, EndKeeps}
use Rattle.bpf_state.specs.declared.known.RegState.{RegState}
use Rattle.bpf_state.specs.declared.known.RegState.TheVariants.{Num}
use Rattle.bpf_state.specs.State.{AbstractState, register, put_register, IsAbstract, IsAbstractRegister}
use Rattle.bpf_state.specs.Fault.{operand, have_right_kinds, reads_part, makes_far_pointer, is_number}
use Rattle.bpf_state.specs.Transfer.{after, alu_tag, number_state, set_number}
use Rattle.bpf_safety.specs.Describes.{Describes, DescribesRegister}
use Rattle.bpf_safety.specs.Laws.{IsJudged, Leads}
use Rattle.bpf_safety.proofs.Judged.{NoFault, no_fault_is, step_is, leads_at}
use Rattle.bpf_safety.proofs.Constants.{constant_describes}
use Rattle.bpf_safety.proofs.Operands.{operand_describes, operand_valid}
use Rattle.bpf_safety.proofs.Tags.{is_mov, alu_tag_keeps}
use Rattle.bpf_safety.proofs.Puts.{put_keeps}
use Rattle.bpf_safety.proofs.AluValues.{leaves, alu_value}

-- the kinds are right in a state without fault
kinds_are_right : (least : ℕ) (s : AbstractState) (i : Insn) → NoFault least s i → have_right_kinds s i ≡ true
kinds_are_right least s i ok = not-false (have_right_kinds s i) (or_parts (not (have_right_kinds s i)) (reads_part s i) ok.kinds).0

-- ---- arithmetic

does_alu : (order : Order) (op : AluOp) (width : Width) (dst : Reg) (src : Operand) (m : machine.State) (b v : Value) → machine_operand m src ≡ Some b → alu_result width op (machine.register m dst) b ≡ Some v → does order (Alu op width dst src) m ≡ put dst v (next (Alu op width dst src) m)
unfolding does
does_alu order op width dst src m b v e f =
    ap (λ o. option_and_then (λ b. option_and_then (λ v. put dst v (next (Alu op width dst src) m)) (alu_result width op (machine.register m dst) b)) o) e
    ∙ ap (λ o. option_and_then (λ v. put dst v (next (Alu op width dst src) m)) o) f

-- an instruction that is done has operands and a result
alu_parts : {P : Type 0} (order : Order) (op : AluOp) (width : Width) (dst : Reg) (src : Operand) (m m' : machine.State) → does order (Alu op width dst src) m ≡ Some m' → ((b v : Value) → machine_operand m src ≡ Some b → alu_result width op (machine.register m dst) b ≡ Some v → P) → P
unfolding does
alu_parts order op width dst src m m' did then =
    option_and_then_some (λ b. option_and_then (λ v. put dst v (next (Alu op width dst src) m)) (alu_result width op (machine.register m dst) b)) (machine_operand m src) m' did
    (λ b e did'. option_and_then_some (λ v. put dst v (next (Alu op width dst src) m)) (alu_result width op (machine.register m dst) b) m' did' (λ v f _. then b v e f))

stays_near : (s : AbstractState) (op : AluOp) (width : Width) (dst : Reg) (src : Operand) → makes_far_pointer s (Alu op width dst src) ≡ false → is_mov op ≡ false → leaves width op (register s dst) (operand s src) ≡ false
stays_near s Mov width dst src h kind = absurd (false≢true (sym kind))
stays_near s op width dst src h kind = h

pub alu_keeps : ConstantHas → ConstantIs → TightenKeeps → AluKeeps → (p : Instructions) (least most : ℕ) (x : List ℕ) (op : AluOp) (width : Width) (dst : Reg) (src : Operand) (s : AbstractState) (m m' : machine.State) → IsJudged p least most x (Alu op width dst src) s m → Step p m m' → Leads p least most x (after p.order (Alu op width dst src) s) m'
alu_keeps constants is_constant tightens law p least most x op width dst src s m m' j step =
    let i : Insn = Alu op width dst src in
    let ok = no_fault_is least s i j.no_fault in
    let depth : ℕ = machine.depth m in
    alu_parts p.order op width dst src m m' (step_is p m m' i j.stands step)
    (λ b v e f.
    let given =
    alu_value law tightens depth (machine.register m dst) b v width op (register s dst) (operand s src) (j.valid.registers dst) (j.described.registers dst) (operand_valid constants s src j.valid)
    (subst (λ o. DescribesRegister depth (operand s src) o) e (operand_describes constants p.order least most x s m src j.described))
    (kinds_are_right least s i ok) (stays_near s op width dst src (or_parts (makes_far_pointer s i) _ ok.bounds).0) f in
    let tag = alu_tag_keeps constants is_constant p.order least most x s m width op dst src b v j.valid j.described e f in
    subst (λ o. Leads p least most x o m') (sym (ap (λ o. option_map (λ r. put_register dst r (alu_tag s width op dst src) s) o) given.is_there))
    (put_keeps p least most x i s m m' dst v given.value (alu_tag s width op dst src) j step refl (does_alu p.order op width dst src m b v e f) given.good.1 given.good.0 tag))

-- ---- jumps

-- a jump that is done leads to some slot
pub jump_slot : (off : ℤ) (m m' : machine.State) → jump m off ≡ Some m' → (sl : ℕ) × (machine.at_slot sl m ≡ m')
jump_slot off m m' did = by_target (target m.top.slot off) did
  where
    by_target : (o : Option ℕ) → option_map (λ sl. machine.at_slot sl m) o ≡ Some m' → (sl : ℕ) × (machine.at_slot sl m ≡ m')
    by_target None h = cc
    by_target (Some sl) h = (sl, same_Some (machine.at_slot sl m) m' h)

-- ---- an operation on one number

record HoldsNumber (R : RegState) (v : Option Value) : Type 0 where
  set : Number
  number : ℕ
  state_is : R ≡ Num set
  value_is : v ≡ Some (NumberValue number)
  member : Member set number

holds_number : (depth : ℕ) (R : RegState) (v : Option Value) → is_number R ≡ true → IsAbstractRegister R → DescribesRegister depth R v → HoldsNumber R v
holds_number depth (Num n) v h ok d = record { set = n; number = d.0; state_is = refl; value_is = d.1; member = (ok, d.2) }
holds_number depth R v h ok d = absurd (false≢true h)

-- an instruction that puts an operation's result on the number in a register
module _ (p : Instructions) (least most : ℕ) (x : List ℕ) (i : Insn) (dst src : Reg) (f : Number → Option Number) (g : ℕ → ℕ) (s : AbstractState) (m m' : machine.State) where
  computes : IsJudged p least most x i s m → Step p m m' → register_written i ≡ Some dst → have_right_kinds s i ≡ is_number (register s src) → does p.order i m ≡ option_and_then (λ a. put dst (NumberValue (g a)) (next i m)) (machine.number_of_register m src) → ((n : Number) (y : ℕ) → Member n y → Holds (f n) (g y)) → Leads p least most x (set_number dst (option_and_then f (number_state (register s src))) s) m'
  computes j step written kind done law =
      let held = holds_number (machine.depth m) (register s src) (machine.register m src) (sym kind ∙ kinds_are_right least s i (no_fault_is least s i j.no_fault)) (j.valid.registers src) (j.described.registers src) in
      let result = law held.set held.number held.member in
      let puts : does p.order i m ≡ put dst (NumberValue (g held.number)) (next i m) = done ∙ ap (λ o. option_and_then (λ a. put dst (NumberValue (g a)) (next i m)) (option_and_then number_in o)) held.value_is in
      let there : set_number dst (option_and_then f (number_state (register s src))) s ≡ Some (put_register dst (Num result.set) None s) =
      ap (λ R. set_number dst (option_and_then f (number_state R)) s) held.state_is ∙ ap (λ o. set_number dst o s) result.is_there in
      subst (λ o. Leads p least most x o m') (sym there)
      (put_keeps p least most x i s m m' dst (NumberValue (g held.number)) (Num result.set) None j step written puts (g held.number, refl, result.has) result.valid tt)

module _ (p : Instructions) (least most : ℕ) (x : List ℕ) where
  pub neg_keeps : NegKeeps → (width : Width) (dst : Reg) (s : AbstractState) (m m' : machine.State) → IsJudged p least most x (Neg width dst) s m → Step p m m' → Leads p least most x (after p.order (Neg width dst) s) m'
  unfolding does
  neg_keeps law width dst s m m' j step = computes p least most x (Neg width dst) dst dst (num_neg width) (alu width Sub 0) s m m' j step refl refl refl (law width)

  pub movsx_keeps : MovsxKeeps → (width : Width) (bits : SignBits) (dst src : Reg) (s : AbstractState) (m m' : machine.State) → IsJudged p least most x (MovSx width bits dst src) s m → Step p m m' → Leads p least most x (after p.order (MovSx width bits dst src) s) m'
  unfolding does
  movsx_keeps law width bits dst src s m m' j step = computes p least most x (MovSx width bits dst src) dst src (num_movsx width bits) (sign_extend bits width) s m m' j step refl refl refl (law width bits)

  pub end_keeps : EndKeeps → (kind : EndKind) (bits : EndBits) (dst : Reg) (s : AbstractState) (m m' : machine.State) → IsJudged p least most x (End kind bits dst) s m → Step p m m' → Leads p least most x (after p.order (End kind bits dst) s) m'
  unfolding does
  end_keeps law kind bits dst s m m' j step = computes p least most x (End kind bits dst) dst dst (num_end p.order kind bits) (swapped p.order kind bits) s m m' j step refl refl refl (law p.order kind bits)

  -- ---- constants

  pub load_imm_keeps : ConstantHas → (dst : Reg) (value : ℕ) (s : AbstractState) (m m' : machine.State) → IsJudged p least most x (LoadImm64 dst value) s m → Step p m m' → Leads p least most x (after p.order (LoadImm64 dst value) s) m'
  unfolding does
  load_imm_keeps law dst value s m m' j step = put_keeps p least most x (LoadImm64 dst value) s m m' dst (NumberValue value) (Num (constant value)) None j step refl refl (constant_describes law (machine.depth m) value j.encoding) (law value j.encoding).0 tt

  -- ---- jumps

  -- another slot changes nothing that is described
  pub at_slot_keeps : (s : AbstractState) (m : machine.State) (sl : ℕ) → IsAbstract s → Describes p.order least most x s m → Leads p least most x (Some s) (machine.at_slot sl m)
  at_slot_keeps s m sl ok d = record {
    state = s;
    is_there = refl;
    valid = ok;
    describes = record { length_within = d.length_within; registers = d.registers; slots = d.slots; register_tags = d.register_tags; slot_tags = d.slot_tags };
  }

  jump_keeps : (off : ℤ) (s : AbstractState) (m m' : machine.State) → IsAbstract s → Describes p.order least most x s m → jump m off ≡ Some m' → Leads p least most x (Some s) m'
  jump_keeps off s m m' ok d did =
      let to = jump_slot off m m' did in
      leads_at p least most x (Some s) (machine.at_slot to.0 m) m' to.1 (at_slot_keeps s m to.0 ok d)

  pub ja_keeps : (off : ℤ) (s : AbstractState) (m m' : machine.State) → IsJudged p least most x (Ja off) s m → Step p m m' → Leads p least most x (after p.order (Ja off) s) m'
  unfolding does
  ja_keeps off s m m' j step = jump_keeps off s m m' j.valid j.described (step_is p m m' (Ja off) j.stands step)

  pub ja_long_keeps : (off : ℤ) (s : AbstractState) (m m' : machine.State) → IsJudged p least most x (JaLong off) s m → Step p m m' → Leads p least most x (after p.order (JaLong off) s) m'
  unfolding does
  ja_long_keeps off s m m' j step = jump_keeps off s m m' j.valid j.described (step_is p m m' (JaLong off) j.stands step)
