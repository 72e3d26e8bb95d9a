-- What a test narrows is put back.
use Rattle.std.proofs.Common.{◌≡◌, ℕ, ℤ, zero, suc, Bool, true, false, List, [], ◌∷◌, get_or, Option, Some, None, refl, ap, ap₂, subst, ◌∙◌}
use Rattle.std.specs.Prelude.{slice_set, option_map, if◌then◌else◌}
use Rattle.std.proofs.lemmas.List.{set-get_or}
use Rattle.std.proofs.lemmas.Option.{none-some, same_Some}
use Rattle.bpf_insn.specs.declared.instruction.Reg.{Reg}
use Rattle.bpf_insn.specs.declared.instruction.Cond.{Cond}
use Rattle.bpf_insn.specs.declared.instruction.Width.{Width}
use Rattle.bpf_insn.specs.declared.instruction.Operand.{Operand}
use Rattle.bpf_insn.specs.declared.instruction.Operand.TheVariants.{Imm, Reg as FromReg}
use Rattle.bpf_insn.specs.declared.instruction.Insn.TheVariants.{JumpIf}
use Rattle.bpf_insn.specs.Instruction.{register_number}
use Rattle.bpf_num.specs.Number.{Number}
use Rattle.bpf_num.specs.Refine.{refine}
use Rattle.bpf_state.specs.declared.known.RegState.{RegState}
use Rattle.bpf_state.specs.declared.known.RegState.TheVariants.{Any, Num, Ptr}
use Rattle.bpf_state.specs.State.{AbstractState, register}
use Rattle.bpf_state.specs.Fault.{operand}
use Rattle.bpf_state.specs.Transfer.{is_register, refine_register, refine_operand, refined, branch}
use Rattle.bpf_check.specs.code.Edges.{with_operands}

back : {A : Type 0} (xs : List A) (i : ℕ) (a z : A) → slice_set (slice_set xs i a) i (get_or xs i z) ≡ xs
back [] i a z = refl
back (x ∷ xs) zero a z = refl
back (x ∷ xs) (suc i) a z = ap (λ l. x ∷ l) (back xs i a z)

both_back : {A : Type 0} (xs : List A) (i j : ℕ) (a b z : A) → slice_set (slice_set (slice_set (slice_set xs i a) j b) i (get_or xs i z)) j (get_or xs j z) ≡ xs
both_back [] i j a b z = refl
both_back (x ∷ xs) zero zero a b z = refl
both_back (x ∷ xs) zero (suc j) a b z = ap (λ l. x ∷ l) (back xs j b z)
both_back (x ∷ xs) (suc i) zero a b z = ap (λ l. x ∷ l) (back xs i a z)
both_back (x ∷ xs) (suc i) (suc j) a b z = ap (λ l. x ∷ l) (both_back xs i j a b z)

-- what stands there may be put there
as_it_was : (dst : Reg) (src : Operand) (s : AbstractState) → with_operands dst src (register s dst) (operand s src) s ≡ s
as_it_was dst (FromReg r) s =
    ap (λ l. record s { registers = l }) (ap (λ l. slice_set l (register_number r) (register s r)) (set-get_or s.registers (register_number dst) Any) ∙ set-get_or s.registers (register_number r) Any)
as_it_was dst (Imm imm) s = ap (λ l. record s { registers = l }) (set-get_or s.registers (register_number dst) Any)

narrowed : (dst : Reg) (src : Operand) (s : AbstractState) (n m : Number) → with_operands dst src (register s dst) (operand s src) (refine_operand src m (refine_register dst n s)) ≡ s
narrowed dst (FromReg r) s n m =
    ap₂ (λ l t. record s { registers = l; register_tags = t })
    (both_back s.registers (register_number dst) (register_number r) (Num n) (Num m) Any)
    (set-get_or (slice_set s.register_tags (register_number dst) (get_or s.register_tags (register_number dst) None)) (register_number r) None ∙ set-get_or s.register_tags (register_number dst) None)
narrowed dst (Imm imm) s n m =
    ap₂ (λ l t. record s { registers = l; register_tags = t }) (back s.registers (register_number dst) (Num n) Any) (set-get_or s.register_tags (register_number dst) None)

same_put : (dst : Reg) (src : Operand) (s s' : AbstractState) → Some s ≡ Some s' → with_operands dst src (register s dst) (operand s src) s' ≡ s
same_put dst src s s' e = subst (λ u. with_operands dst src (register s dst) (operand s src) u ≡ s) (same_Some s s' e) (as_it_was dst src s)

by_values : (test : Cond) (width : Width) (dst : Reg) (src : Operand) (off : ℤ) (a b : RegState) (s s' : AbstractState) → refined (JumpIf test width dst src off) true a b s ≡ Some s' → with_operands dst src (register s dst) (operand s src) s' ≡ s
by_values test width dst src off (Num n) (Num m) s s' e = by_test (is_register dst src) (refine test width true n m) e
  where
    by_test : (t : Bool) (o : Option (Number × Number)) → (if t then Some s else option_map (λ p. refine_operand src p.1 (refine_register dst p.0 s)) o) ≡ Some s' → with_operands dst src (register s dst) (operand s src) s' ≡ s
    by_test true o e = same_put dst src s s' e
    by_test false None e = absurd (none-some s' e)
    by_test false (Some p) e = subst (λ u. with_operands dst src (register s dst) (operand s src) u ≡ s) (same_Some (refine_operand src p.1 (refine_register dst p.0 s)) s' e) (narrowed dst src s p.0 p.1)
by_values test width dst src off (Num n) Any s s' e = same_put dst src s s' e
by_values test width dst src off (Num n) (Ptr q) s s' e = same_put dst src s s' e
by_values test width dst src off Any b s s' e = same_put dst src s s' e
by_values test width dst src off (Ptr p) b s s' e = same_put dst src s s' e

-- the state on the edge of a test is the one before it, but for the operands
pub put_back : (test : Cond) (width : Width) (dst : Reg) (src : Operand) (off : ℤ) (s s' : AbstractState) → branch (JumpIf test width dst src off) true s ≡ Some s' → with_operands dst src (register s dst) (operand s src) s' ≡ s
put_back test width dst src off s s' e = by_values test width dst src off (register s dst) (operand s src) s s' e
