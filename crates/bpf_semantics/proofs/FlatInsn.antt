-- Each instruction but calls and exits leads to states that fit.
use Rattle.std.proofs.Common.{◌≡◌, Some, refl, ap, sym, subst, length, ◌<◌, ◌+◌, ◌^◌, ℕ, arith, ◌∙◌}
use Rattle.std.specs.Prelude.{ℤ, Bool, true, false, cond, option_map}
use Rattle.std.proofs.lemmas.Option.{same_Some, option_and_then_some}
use Rattle.bpf_insn.specs.Arithmetic.{alu, jumps, sign_extend, swapped}
use Rattle.bpf_insn.specs.Instruction.{register_number, slot_count, target}
use Rattle.bpf_semantics.specs.State.{State, IsState, register, at_slot, number_of_register}
use Rattle.bpf_semantics.specs.Flat.{Placement, FlatState, flat_register, flat_put, flat_at, flat_does, flat_next, flat_jump, flat_operand}
use Rattle.bpf_semantics.specs.Placement.{IsPlacement, Fits}
use Rattle.bpf_insn.specs.declared.order.Order.{Order}
use Rattle.bpf_insn.specs.declared.instruction.Reg.{Reg}
use Rattle.bpf_semantics.specs.declared.value.Value.TheVariants.{Number}
use Rattle.bpf_semantics.specs.Step.{does, next, jump, alu_result, operand, test_of_values}
use Rattle.bpf_insn.specs.declared.instruction.Width.{Width}
use Rattle.bpf_insn.specs.declared.instruction.AluOp.{AluOp}
use Rattle.bpf_insn.specs.declared.instruction.AluOp.TheVariants.{Sub}
use Rattle.bpf_insn.specs.declared.instruction.Cond.{Cond}
use Rattle.bpf_insn.specs.declared.instruction.SignBits.{SignBits}
use Rattle.bpf_insn.specs.declared.instruction.EndBits.{EndBits}
use Rattle.bpf_insn.specs.declared.instruction.EndKind.{EndKind}
use Rattle.bpf_insn.specs.declared.instruction.Operand.{Operand}
use Rattle.bpf_insn.specs.declared.instruction.Insn.{Insn}
use Rattle.bpf_insn.specs.declared.instruction.Insn.TheVariants.{Alu, Neg, MovSx, End, LoadImm64, Ja, JaLong, JumpIf}
use Rattle.bpf_semantics.proofs.FlatBase.{stands, reg_fits, fits_put, fits_at}
use Rattle.bpf_semantics.proofs.FlatValues.{result_fits, tests_fit, operand_fits, operand_below}
use Rattle.bpf_semantics.proofs.NumberLemmas.{alu_below, sign_extend_below, swapped_below}
use Rattle.bpf_semantics.proofs.StateLemmas.{option_map_some, number_is, value_fits, operand_value_fits}

-- Each instruction but calls and exits leads to states that fit.
-- ---- registers

-- the flat state that an instruction leads to, and that it fits
pub record Lands (order : Order) (place : Placement) (i : Insn) (f : FlatState) (t : State) : Type 0 where
  pub state : FlatState
  pub does : flat_does order i f ≡ Some state
  pub fits : Fits order place t state

-- what the laws are given
pub record Given (order : Order) (place : Placement) (s : State) (f : FlatState) : Type 0 where
  pub fit : Fits order place s f
  pub is_state : IsState s
  pub placed : IsPlacement (length s.context) place

pub fits_next : {order : Order} {place : Placement} {s : State} {f : FlatState} → Fits order place s f → (i : Insn) → Fits order place (next i s) (flat_next i f)
fits_next {order = order} {place = place} {s = s} {f = f} fit i = subst (λ n. Fits order place (at_slot (s.top.slot + slot_count i) s) (flat_at (n + slot_count i) f)) (sym fit.slot_is) (fits_at fit (s.top.slot + slot_count i))

pub number_stands : {order : Order} {place : Placement} {s : State} {f : FlatState} → Fits order place s f → (r : Reg) (n : ℕ) → number_of_register s r ≡ Some n → flat_register f r ≡ n
number_stands {s = s} fit r n e = stands fit r (Number n) (number_is s r n e)

pub registers_eleven : {s : State} → IsState s → length s.top.registers ≡ 11
registers_eleven iss = iss.each_frame.0.eleven

-- ---- arithmetic

pub alu_lands : (order : Order) (place : Placement) (s t : State) (f : FlatState) (op : AluOp) (width : Width) (dst : Reg) (src : Operand) → Given order place s f → does order (Alu op width dst src) s ≡ Some t → Lands order place (Alu op width dst src) f t
unfolding does flat_does
alu_lands order place s t f op width dst src g e =
    option_and_then_some _ (operand s src) t e (λ b eb e1. option_and_then_some _ (alu_result width op (register s dst) b) t e1 (λ v ev e2.
    record {
      state = flat_put dst (alu width op (flat_register f dst) (flat_operand f src)) (flat_next (Alu op width dst src) f);
      does = refl;
      fits = fits_put (fits_next g.fit (Alu op width dst src)) (registers_eleven g.is_state) dst _ v t (alu_below width op _ _ (g.fit.flat.numbers (register_number dst)) (operand_below f g.fit.flat src)) (result_fits place width op (register s dst) b v _ _ ev (reg_fits g.fit dst) (operand_fits g.fit src b eb)) e2;
    }))

pub neg_lands : (order : Order) (place : Placement) (s t : State) (f : FlatState) (width : Width) (dst : Reg) → Given order place s f → does order (Neg width dst) s ≡ Some t → Lands order place (Neg width dst) f t
unfolding does flat_does
neg_lands order place s t f width dst g e =
    option_and_then_some _ (number_of_register s dst) t e (λ a ea e1.
    record {
      state = flat_put dst (alu width Sub 0 (flat_register f dst)) (flat_next (Neg width dst) f);
      does = refl;
      fits = fits_put (fits_next g.fit (Neg width dst)) (registers_eleven g.is_state) dst _ (Number (alu width Sub 0 a)) t (alu_below width Sub 0 _ (omega arith) (g.fit.flat.numbers (register_number dst))) (ap (λ x. alu width Sub 0 x) (number_stands g.fit dst a ea)) e1;
    })

pub mov_sx_lands : (order : Order) (place : Placement) (s t : State) (f : FlatState) (width : Width) (bits : SignBits) (dst src : Reg) → Given order place s f → does order (MovSx width bits dst src) s ≡ Some t → Lands order place (MovSx width bits dst src) f t
unfolding does flat_does
mov_sx_lands order place s t f width bits dst src g e =
    option_and_then_some _ (number_of_register s src) t e (λ b eb e1.
    record {
      state = flat_put dst (sign_extend bits width (flat_register f src)) (flat_next (MovSx width bits dst src) f);
      does = refl;
      fits = fits_put (fits_next g.fit (MovSx width bits dst src)) (registers_eleven g.is_state) dst _ (Number (sign_extend bits width b)) t (sign_extend_below bits width _) (ap (λ x. sign_extend bits width x) (number_stands g.fit src b eb)) e1;
    })

pub end_lands : (order : Order) (place : Placement) (s t : State) (f : FlatState) (kind : EndKind) (bits : EndBits) (dst : Reg) → Given order place s f → does order (End kind bits dst) s ≡ Some t → Lands order place (End kind bits dst) f t
unfolding does flat_does
end_lands order place s t f kind bits dst g e =
    option_and_then_some _ (number_of_register s dst) t e (λ a ea e1.
    record {
      state = flat_put dst (swapped order kind bits (flat_register f dst)) (flat_next (End kind bits dst) f);
      does = refl;
      fits = fits_put (fits_next g.fit (End kind bits dst)) (registers_eleven g.is_state) dst _ (Number (swapped order kind bits a)) t (swapped_below order kind bits _ (g.fit.flat.numbers (register_number dst))) (ap (λ x. swapped order kind bits x) (number_stands g.fit dst a ea)) e1;
    })

pub load_imm_lands : (order : Order) (place : Placement) (s t : State) (f : FlatState) (dst : Reg) (value : ℕ) → value < 2 ^ 64 → Given order place s f → does order (LoadImm64 dst value) s ≡ Some t → Lands order place (LoadImm64 dst value) f t
unfolding does flat_does
load_imm_lands order place s t f dst value h g e =
    record {
      state = flat_put dst value (flat_next (LoadImm64 dst value) f);
      does = refl;
      fits = fits_put (fits_next g.fit (LoadImm64 dst value)) (registers_eleven g.is_state) dst value (Number value) t h refl e;
    }

-- ---- jumps

pub jump_fits : (order : Order) (place : Placement) (s t : State) (f : FlatState) (off : ℤ) → Given order place s f → jump s off ≡ Some t → (h : FlatState) × (flat_jump f off ≡ Some h) × (Fits order place t h)
jump_fits order place s t f off g e =
    let h = option_map_some (λ slot. at_slot slot s) (target s.top.slot off) t e in
    (flat_at h.0 f, ap (λ n. option_map (λ slot. flat_at slot f) (target n off)) g.fit.slot_is ∙ ap (λ o. option_map (λ slot. flat_at slot f) o) h.1, subst (λ t. Fits order place t (flat_at h.0 f)) h.2 (fits_at g.fit h.0))

pub ja_lands : (order : Order) (place : Placement) (s t : State) (f : FlatState) (off : ℤ) → Given order place s f → does order (Ja off) s ≡ Some t → Lands order place (Ja off) f t
unfolding does flat_does
ja_lands order place s t f off g e = let h = jump_fits order place s t f off g e in record { state = h.0; does = h.1; fits = h.2 }

pub ja_long_lands : (order : Order) (place : Placement) (s t : State) (f : FlatState) (off : ℤ) → Given order place s f → does order (JaLong off) s ≡ Some t → Lands order place (JaLong off) f t
unfolding does flat_does
ja_long_lands order place s t f off g e = let h = jump_fits order place s t f off g e in record { state = h.0; does = h.1; fits = h.2 }

branch_fits : (order : Order) (place : Placement) (s t : State) (f : FlatState) (off : ℤ) (i : Insn) (taken : Bool) → Given order place s f → cond taken (jump s off) (Some (next i s)) ≡ Some t → (h : FlatState) × (cond taken (flat_jump f off) (Some (flat_next i f)) ≡ Some h) × (Fits order place t h)
branch_fits order place s t f off i true g e = jump_fits order place s t f off g e
branch_fits order place s t f off i false g e = (flat_next i f, refl, subst (λ t. Fits order place t (flat_next i f)) (same_Some _ _ e) (fits_next g.fit i))

pub jump_if_lands : (order : Order) (place : Placement) (s t : State) (f : FlatState) (cond : Cond) (width : Width) (dst : Reg) (src : Operand) (off : ℤ) → Given order place s f → does order (JumpIf cond width dst src off) s ≡ Some t → Lands order place (JumpIf cond width dst src off) f t
unfolding does flat_does
jump_if_lands order place s t f cond width dst src off g e =
    option_and_then_some _ (register s dst) t e (λ a ea e1. option_and_then_some _ (operand s src) t e1 (λ b eb e2. option_and_then_some _ (test_of_values width cond a b) t e2 (λ taken et e3.
    let h = branch_fits order place s t f off (JumpIf cond width dst src off) taken g e3 in
    let same : jumps width cond (flat_register f dst) (flat_operand f src) ≡ taken = tests_fit place width cond a b taken _ _ (value_fits g.is_state dst a ea) (operand_value_fits g.is_state src b eb) et (stands g.fit dst a ea) (operand_fits g.fit src b eb) in
    record { state = h.0; does = rw same h.1; fits = h.2 })))
