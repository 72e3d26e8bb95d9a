-- The states on the edges of tests: bounds stay, and r5's counter with them.
use Rattle.std.proofs.Common.{◌≡◌, ℕ, ℤ, Bool, false, Some, refl, sym, ap, ap₂, ◌∙◌, arith}
use Rattle.std.specs.Prelude.{option_map}
use Rattle.std.proofs.lemmas.Bool.{cond-false}
use Rattle.bpf_insn.specs.Arithmetic.{extended}
use Rattle.bpf_insn.specs.declared.instruction.Reg.{Reg}
use Rattle.bpf_insn.specs.declared.instruction.Operand.TheVariants.{Imm, Reg as FromReg}
use Rattle.bpf_insn.specs.declared.instruction.Width.TheVariants.{W64}
use Rattle.bpf_insn.specs.declared.instruction.Cond.{Cond}
use Rattle.bpf_insn.specs.declared.instruction.Insn.TheVariants.{JumpIf}
use Rattle.bpf_num.specs.Number.{Number, constant}
use Rattle.bpf_num.specs.Refine.{refine64}
use Rattle.bpf_state.specs.State.{AbstractState, register, register_tag, put_register}
use Rattle.bpf_state.specs.Transfer.{is_register, refine_register, refine_operand, refined, branch}
use Rattle.bpf_state.specs.declared.known.RegState.{RegState}
use Rattle.bpf_state.specs.declared.known.RegState.TheVariants.{Num}
use Rattle.bpf_conversion.proofs.Numbers.{mapped, bounded, bounded_narrower, Narrower, IsIn}
use Rattle.bpf_conversion.proofs.TemplateStates.{InBounds}

-- a number that lies in another between bounds
pub narrower_in : (lo hi : ℕ) (r : RegState) (m : Number) → (h : IsIn lo hi r) → Narrower m h.number → InBounds lo hi (Num m)
narrower_in lo hi r m h n = record {
  number = m;
  is_number = refl;
  bounds = bounded_narrower m h.number n (bounded h.number h.valid);
  low = (let a = h.low in let b = n.low in omega (arith, a, b));
  high = (let a = h.high in let b = n.high in omega (arith, a, b));
}

-- the edge of a test of 64 bits of a register by a constant
pub record ByConstant (c : Cond) (taken : Bool) (dst : Reg) (k : ℤ) (s e : AbstractState) (n : Number) : Type 0 where
  pub refined_to : Number × Number
  pub refines : refine64 c taken n (constant (extended k)) ≡ Some refined_to
  pub state_is : e ≡ put_register dst (Num refined_to.0) (register_tag s dst) s

pub by_constant : (c : Cond) (taken : Bool) (dst : Reg) (k : ℤ) (off : ℤ) (lo hi : ℕ) (s e : AbstractState) → (h : IsIn lo hi (register s dst)) → branch (JumpIf c W64 dst (Imm k) off) taken s ≡ Some e → ByConstant c taken dst k s e h.number
by_constant c taken dst k off lo hi s e h eq =
    let f = ap (λ r. refined (JumpIf c W64 dst (Imm k) off) taken r (Num (constant (extended k))) s) (sym h.is_number) ∙ eq in
    let m = mapped (λ (p : Number × Number). refine_operand (Imm k) p.1 (refine_register dst p.0 s)) (refine64 c taken h.number (constant (extended k))) e f in
    record { refined_to = m.value; refines = m.is_there; state_is = sym m.gives }

-- of another register
pub record ByRegister (c : Cond) (taken : Bool) (dst src : Reg) (s e : AbstractState) (a b : Number) : Type 0 where
  pub refined_to : Number × Number
  pub refines : refine64 c taken a b ≡ Some refined_to
  pub state_is : e ≡ put_register src (Num refined_to.1) (register_tag (put_register dst (Num refined_to.0) (register_tag s dst) s) src) (put_register dst (Num refined_to.0) (register_tag s dst) s)

pub by_register : (c : Cond) (taken : Bool) (dst src : Reg) (off : ℤ) (lo hi lo' hi' : ℕ) (s e : AbstractState) → (h : IsIn lo hi (register s dst)) → (k : IsIn lo' hi' (register s src)) → is_register dst (FromReg src) ≡ false → branch (JumpIf c W64 dst (FromReg src) off) taken s ≡ Some e
    → ByRegister c taken dst src s e h.number k.number
by_register c taken dst src off lo hi lo' hi' s e h k other eq =
    let f = ap₂ (λ r q. refined (JumpIf c W64 dst (FromReg src) off) taken r q s) (sym h.is_number) (sym k.is_number) ∙ eq in
    let g = sym (cond-false (is_register dst (FromReg src)) (Some s) (option_map (λ (p : Number × Number). refine_operand (FromReg src) p.1 (refine_register dst p.0 s)) (refine64 c taken h.number k.number)) other) ∙ f in
    let m = mapped (λ (p : Number × Number). refine_operand (FromReg src) p.1 (refine_register dst p.0 s)) (refine64 c taken h.number k.number) e g in
    record { refined_to = m.value; refines = m.is_there; state_is = sym m.gives }
