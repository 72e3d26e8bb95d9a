-- What the operations on values give, and what the flat machine gives on the numbers that stand for them.
use Rattle.std.proofs.Common.{◌≡◌, Option, Some, None, refl, ap, ap₂, sym, subst, ◌<◌, ◌+◌, ◌%◌, ◌^◌, ℕ, arith, ◌∙◌}
use Rattle.std.specs.Prelude.{ℤ, pos, ◌-ℤ◌, FitsSigned, ◌==◌, Bool, true, cond, not}
use Rattle.std.proofs.lemmas.Option.{none-some, same_Some}
use Rattle.std.proofs.lemmas.Bool.{eqb-true, false≢true}
use Rattle.std.specs.Int.{w64}
use Rattle.bpf_insn.specs.Arithmetic.{modulo, alu, extended, jumps}
use Rattle.bpf_insn.specs.Instruction.{register_number}
use Rattle.bpf_semantics.specs.State.{State, FitsMachine}
use Rattle.bpf_semantics.specs.Flat.{addresses, Placement, FlatState, IsFlat, flat_operand}
use Rattle.bpf_semantics.specs.Placement.{Fits, StandsFor, pointer_address, region_address}
use Rattle.bpf_insn.specs.declared.order.Order.{Order}
use Rattle.bpf_semantics.specs.declared.value.Value.{Value}
use Rattle.bpf_semantics.specs.declared.value.Value.TheVariants.{Number, Pointer}
use Rattle.bpf_semantics.specs.declared.value.Region.{Region}
use Rattle.bpf_semantics.specs.declared.value.Region.TheVariants.{Context, Frame as FrameAt}
use Rattle.bpf_semantics.specs.Step.{alu_of_values, alu_result, moved, operand, test_of_values, same_region}
use Rattle.bpf_insn.specs.declared.instruction.Width.{Width}
use Rattle.bpf_insn.specs.declared.instruction.Width.TheVariants.{W32, W64}
use Rattle.bpf_insn.specs.declared.instruction.AluOp.{AluOp}
use Rattle.bpf_insn.specs.declared.instruction.AluOp.TheVariants.{Add, Sub, Mov}
use Rattle.bpf_insn.specs.declared.instruction.Cond.{Cond}
use Rattle.bpf_insn.specs.declared.instruction.Cond.TheVariants.{Eq, Ne}
use Rattle.bpf_insn.specs.declared.instruction.Operand.{Operand}
use Rattle.bpf_insn.specs.declared.instruction.Operand.TheVariants.{Imm, Reg as FromReg}
use Rattle.bpf_semantics.proofs.FlatArith.{moved_up, moved_down, distance_between, equal_tests}
use Rattle.bpf_semantics.proofs.FlatBase.{stands}
use Rattle.bpf_semantics.proofs.NumberLemmas.{modulo_below}
use Rattle.bpf_semantics.proofs.StateLemmas.{cond_option}

same_region_is : (r r' : Region) → same_region r r' ≡ true → r ≡ r'
same_region_is Context Context e = refl
same_region_is Context (FrameAt n) e = absurd (false≢true e)
same_region_is (FrameAt n) Context e = absurd (false≢true e)
same_region_is (FrameAt m) (FrameAt n) e = ap FrameAt (eqb-true m n e)

pub values_fit : (place : Placement) (width : Width) (op : AluOp) (a b v : Value) (x y : ℕ) → alu_of_values width op a b ≡ Some v → StandsFor place x (Some a) → StandsFor place y (Some b) → StandsFor place (alu width op x y) (Some v)
values_fit place width op (Number a) (Number b) v x y e sa sb = subst (λ v. StandsFor place (alu width op x y) (Some v)) (same_Some _ _ e) (ap₂ (λ x y. alu width op x y) sa sb)
values_fit place W64 Add (Pointer region off) (Number b) v x y e sa sb = subst (λ v. StandsFor place ((x + y) % addresses) (Some v)) (same_Some _ _ e) (ap₂ (λ x y. (x + y) % addresses) sa sb ∙ sym (moved_up (region_address place region) off b))
values_fit place W64 Add (Number a) (Pointer region off) v x y e sa sb =
    let c : (a + pointer_address place region off) % addresses ≡ (pointer_address place region off + a) % addresses = ap (λ z. z % addresses) (omega arith) in
    subst (λ v. StandsFor place ((x + y) % addresses) (Some v)) (same_Some _ _ e) (ap₂ (λ x y. (x + y) % addresses) sa sb ∙ c ∙ sym (moved_up (region_address place region) off a))
values_fit place W64 Sub (Pointer region off) (Number b) v x y e sa sb = subst (λ v. StandsFor place (modulo (pos x -ℤ pos y) addresses) (Some v)) (same_Some _ _ e) (ap₂ (λ x y. modulo (pos x -ℤ pos y) addresses) sa sb ∙ sym (moved_down (region_address place region) off b))
values_fit place W64 Sub (Pointer region off) (Pointer region' off') v x y e sa sb =
    let h = cond_option _ _ v e in
    let r : region ≡ region' = same_region_is region region' h.0 in
    subst (λ v. StandsFor place (modulo (pos x -ℤ pos y) addresses) (Some v)) (same_Some _ _ h.1) (ap₂ (λ x y. modulo (pos x -ℤ pos y) addresses) sa (sb ∙ ap (λ r. pointer_address place r off') (sym r)) ∙ sym (distance_between (region_address place region) off off'))
values_fit place width op a b v x y e sa sb = absurd (none-some _ e)

fits_offset : (region : Region) (off : ℤ) → FitsMachine (Some (Pointer region off)) → FitsSigned w64 off
fits_offset Context off h = h
fits_offset (FrameAt n) off h = h.1

pub tests_fit : (place : Placement) (width : Width) (cond : Cond) (a b : Value) (taken : Bool) (x y : ℕ) → FitsMachine (Some a) → FitsMachine (Some b) → test_of_values width cond a b ≡ Some taken → StandsFor place x (Some a) → StandsFor place y (Some b) → jumps width cond x y ≡ taken
tests_fit place width cond (Number a) (Number b) taken x y fa fb e sa sb = ap₂ (λ x y. jumps width cond x y) sa sb ∙ same_Some _ _ e
tests_fit place W64 Eq (Pointer region a) (Pointer region' b) taken x y fa fb e sa sb =
    let h = cond_option _ _ taken e in
    let r : region ≡ region' = same_region_is region region' h.0 in
    ap₂ (λ x y. x == y) sa (sb ∙ ap (λ r. pointer_address place r b) (sym r)) ∙ sym (equal_tests (region_address place region) a b (fits_offset region a fa) (fits_offset region' b fb)) ∙ same_Some _ _ h.1
tests_fit place W64 Ne (Pointer region a) (Pointer region' b) taken x y fa fb e sa sb =
    let h = cond_option _ _ taken e in
    let r : region ≡ region' = same_region_is region region' h.0 in
    ap₂ (λ x y. not (x == y)) sa (sb ∙ ap (λ r. pointer_address place r b) (sym r)) ∙ ap not (sym (equal_tests (region_address place region) a b (fits_offset region a fa) (fits_offset region' b fb))) ∙ same_Some _ _ h.1
tests_fit place width cond a b taken x y fa fb e sa sb = absurd (none-some _ e)

moved_fits : (place : Placement) (width : Width) (b v : Value) (x y : ℕ) → moved width b ≡ Some v → StandsFor place y (Some b) → StandsFor place (alu width Mov x y) (Some v)
moved_fits place W64 b v x y e sb = subst (λ v. StandsFor place y (Some v)) (same_Some _ _ e) sb
moved_fits place W32 (Number b) v x y e sb = subst (λ v. StandsFor place (y % 2 ^ 32) (Some v)) (same_Some _ _ e) (ap (λ y. y % 2 ^ 32) sb)
moved_fits place W32 (Pointer region off) v x y e sb = absurd (none-some _ e)

pub result_fits : (place : Placement) (width : Width) (op : AluOp) (a : Option Value) (b v : Value) (x y : ℕ) → alu_result width op a b ≡ Some v → StandsFor place x a → StandsFor place y (Some b) → StandsFor place (alu width op x y) (Some v)
result_fits place width Mov a b v x y e sa sb = moved_fits place width b v x y e sb
result_fits place width op (Some a) b v x y e sa sb = values_fit place width op a b v x y e sa sb
result_fits place width op None b v x y e sa sb = absurd (none-some _ e)

-- ---- operands

pub operand_fits : {order : Order} {place : Placement} {s : State} {f : FlatState} → Fits order place s f → (src : Operand) (b : Value) → operand s src ≡ Some b → StandsFor place (flat_operand f src) (Some b)
operand_fits {place = place} fit (Imm imm) b e = subst (λ v. StandsFor place (extended imm) (Some v)) (same_Some _ _ e) refl
operand_fits fit (FromReg r) b e = stands fit r b e

pub operand_below : (f : FlatState) → IsFlat f → (src : Operand) → flat_operand f src < addresses
operand_below f flat (Imm imm) = modulo_below imm
operand_below f flat (FromReg r) = flat.numbers (register_number r)
