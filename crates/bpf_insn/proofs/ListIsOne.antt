-- A list of instructions is a program, or there is a first cause why it is none.
use Rattle.std.proofs.Common.{◌≡◌, ℕ, zero, suc, ◌<◌, ◌≤◌, List, [], ◌∷◌, Option, Some, None, inl, inr, ⊎_elim, refl, subst, arith}
use Rattle.std.specs.Prelude.{◌⊎◌, ℤ, pos, negsuc, FitsSigned, IfSome, IsSome, option_and_then, ◌^◌}
use Rattle.std.specs.Int.{w16, w32}
use Rattle.std.proofs.lemmas.Int.{ints}
use Rattle.std.proofs.lemmas.Bool.{cases_lt}
use Rattle.bpf_insn.specs.Instruction.{layout, insn_in, slots, distance, target, EachSlot, FailsFirst}
use Rattle.bpf_insn.specs.Image.{OperandFits, HasEncoding, IsProgram, HasTarget, LeadsInside}
use Rattle.bpf_insn.specs.Limits.{max_slots}
use Rattle.bpf_insn.specs.Refusal.{IsNoProgram, IsBadCount}
use Rattle.bpf_insn.specs.Refusal.IsNoProgram.{bad_count, no_encoding, no_target}
use Rattle.bpf_insn.specs.Laws.{ListIsOneOfBoth}
use Rattle.bpf_insn.specs.declared.instruction.Size.TheVariants.{B, H, W, DW}
use Rattle.bpf_insn.specs.declared.instruction.Width.TheVariants.{W32, W64}
use Rattle.bpf_insn.specs.declared.instruction.SignBits.TheVariants.{B8 as S8, B16 as S16, B32 as S32}
use Rattle.bpf_insn.specs.declared.instruction.Operand.{Operand}
use Rattle.bpf_insn.specs.declared.instruction.Operand.TheVariants.{Imm, Reg as FromReg}
use Rattle.bpf_insn.specs.declared.instruction.Insn.{Insn}
use Rattle.bpf_insn.specs.declared.instruction.Insn.TheVariants.{Alu, Neg, MovSx, End, LoadImm64, Load, LoadSx, Store, StoreImm, Atomic, Ja, JaLong, JumpIf, CallLocal, Exit}
use Rattle.bpf_insn.specs.declared.refusal.BuildError.{BuildError}
use Rattle.bpf_insn.specs.declared.refusal.BuildError.TheVariants.{Length, NoEncoding, Target}
use Rattle.bpf_insn.proofs.ProgramLemmas.{all_have_encoding}

abbrev Either : Type 0 → Type 0
Either P = P ⊎ (P → ⊥)

less_or_not : (m n : ℕ) → Either (m < n)
less_or_not m n = ⊎_elim (λ h. inl h) (λ h. inr (λ less. omega (arith, h, less))) (cases_lt m n)

fits_16_or_not : (z : ℤ) → Either (FitsSigned w16 z)
fits_16_or_not (pos n) = ⊎_elim (λ h. inl (omega (arith, ints))) (λ h. inr (λ fits. h (omega (arith, ints)))) (less_or_not n 32768)
fits_16_or_not (negsuc n) = ⊎_elim (λ h. inl (omega (arith, ints))) (λ h. inr (λ fits. h (omega (arith, ints)))) (less_or_not n 32768)

fits_32_or_not : (z : ℤ) → Either (FitsSigned w32 z)
fits_32_or_not (pos n) = ⊎_elim (λ h. inl (omega (arith, ints))) (λ h. inr (λ fits. h (omega (arith, ints)))) (less_or_not n 2147483648)
fits_32_or_not (negsuc n) = ⊎_elim (λ h. inl (omega (arith, ints))) (λ h. inr (λ fits. h (omega (arith, ints)))) (less_or_not n 2147483648)

both_or_not : {P Q : Type 0} → Either P → Either Q → Either (P × Q)
both_or_not (inl p) (inl q) = inl (p, q)
both_or_not (inl p) (inr q) = inr (λ h. q h.1)
both_or_not (inr p) q = inr (λ h. p h.0)

operand_or_not : (src : Operand) → Either (OperandFits src)
operand_or_not (Imm imm) = fits_32_or_not imm
operand_or_not (FromReg r) = inl tt

encoding_or_not : (i : Insn) → Either (HasEncoding i)
encoding_or_not (Alu op width dst src) = operand_or_not src
encoding_or_not (Neg width dst) = inl tt
encoding_or_not (MovSx W32 S8 dst src) = inl tt
encoding_or_not (MovSx W32 S16 dst src) = inl tt
encoding_or_not (MovSx W32 S32 dst src) = inr (λ h. h)
encoding_or_not (MovSx W64 bits dst src) = inl tt
encoding_or_not (End kind bits dst) = inl tt
encoding_or_not (LoadImm64 dst value) = less_or_not value (2 ^ 64)
encoding_or_not (Load size dst src off) = fits_16_or_not off
encoding_or_not (LoadSx B dst src off) = fits_16_or_not off
encoding_or_not (LoadSx H dst src off) = fits_16_or_not off
encoding_or_not (LoadSx W dst src off) = fits_16_or_not off
encoding_or_not (LoadSx DW dst src off) = inr (λ h. h)
encoding_or_not (Store size dst off src) = fits_16_or_not off
encoding_or_not (StoreImm size dst off imm) = both_or_not (fits_16_or_not off) (fits_32_or_not imm)
encoding_or_not (Atomic wide op dst off src) = fits_16_or_not off
encoding_or_not (Ja off) = fits_16_or_not off
encoding_or_not (JaLong off) = fits_32_or_not off
encoding_or_not (JumpIf test width dst src off) = both_or_not (operand_or_not src) (fits_16_or_not off)
encoding_or_not (CallLocal off) = fits_32_or_not off
encoding_or_not Exit = inl tt

some_or_not : {A : Type 0} (o : Option A) → Either (IsSome o)
some_or_not None = inr (λ h. cc)
some_or_not (Some x) = inl refl

target_or_not : (cells : List (Option Insn)) (slot : ℕ) (i : Insn) → Either (HasTarget cells slot i)
target_or_not cells slot i = go (distance i)
  where
    go : (o : Option ℤ) → Either (IfSome o (λ off. LeadsInside cells slot off))
    go None = inl tt
    go (Some off) = some_or_not (option_and_then (insn_in cells) (target slot off))

-- all are good, or there is a first that isn't
abbrev Found : (ℕ → Insn → Type 0) → List (Option Insn) → Type 0
Found good cells = EachSlot good cells ⊎ ((slot : ℕ) × FailsFirst good cells slot)

each_later : (good : ℕ → Insn → Type 0) (cell : Option Insn) (cells : List (Option Insn)) → ((i : Insn) → cell ≡ Some i → good 0 i) → EachSlot (λ s i. good (suc s) i) cells → EachSlot good (cell ∷ cells)
each_later good cell cells here later zero i e = here i e
each_later good cell cells here later (suc s) i e = later s i e

fails_later : (good : ℕ → Insn → Type 0) (cell : Option Insn) (cells : List (Option Insn)) (slot : ℕ) → ((i : Insn) → cell ≡ Some i → good 0 i) → FailsFirst (λ s i. good (suc s) i) cells slot → FailsFirst good (cell ∷ cells) (suc slot)
fails_later good cell cells slot here first = record { insn = first.insn; stands = first.stands; fails = first.fails; lower = lower }
  where
    lower : (s : ℕ) (i : Insn) → s < suc slot → insn_in (cell ∷ cells) s ≡ Some i → good s i
    lower zero i less e = here i e
    lower (suc s) i less e = first.lower s i (omega (arith, less)) e

find : (good : ℕ → Insn → Type 0) → ((s : ℕ) (i : Insn) → Either (good s i)) → (cells : List (Option Insn)) → Found good cells
find good or_not [] = inl (λ s i e. absurd (cc))
find good or_not (None ∷ cells) = behind (find (λ s i. good (suc s) i) (λ s. or_not (suc s)) cells)
  where
    none : (i : Insn) → (let o : Option Insn = None in o) ≡ Some i → good 0 i
    none i e = absurd (cc)

    behind : Found (λ s i. good (suc s) i) cells → Found good (None ∷ cells)
    behind (inl each) = inl (each_later good None cells none each)
    behind (inr first) = inr (suc first.0, fails_later good None cells first.0 none first.1)
find good or_not (Some j ∷ cells) = ⊎_elim (λ fine. behind (λ i e. subst (good 0) (let same : j ≡ i = cc in same) fine) (find (λ s i. good (suc s) i) (λ s. or_not (suc s)) cells))
    (λ bad. inr (0, record { insn = j; stands = refl; fails = bad; lower = λ s i less e. absurd (omega (arith, less)) })) (or_not 0 j)
  where
    behind : ((i : Insn) → Some j ≡ Some i → good 0 i) → Found (λ s i. good (suc s) i) cells → Found good (Some j ∷ cells)
    behind here (inl each) = inl (each_later good (Some j) cells here each)
    behind here (inr first) = inr (suc first.0, fails_later good (Some j) cells first.0 here first.1)

count_or_not : (is : List Insn) → (IsBadCount is) ⊎ ((0 < slots is) × (slots is ≤ max_slots) × (IsBadCount is → ⊥))
count_or_not is = ⊎_elim (λ some. ⊎_elim (λ many. inl (inr many)) (λ few. inr (some, omega (arith, few), λ bad. ⊎_elim (λ none. omega (arith, some, none)) (λ many. few many) bad)) (less_or_not max_slots (slots is)))
    (λ none. inl (inl (omega (arith, none)))) (less_or_not 0 (slots is))

pub list_is_one_of_both : ListIsOneOfBoth
list_is_one_of_both is = counted (count_or_not is)
  where
    aimed : (0 < slots is) × (slots is ≤ max_slots) × (IsBadCount is → ⊥) → EachSlot (λ s i. HasEncoding i) (layout is) → Found (HasTarget (layout is)) (layout is) → IsProgram is ⊎ ((e : BuildError) × IsNoProgram is e)
    aimed count each (inl targets) = inl (record { some_slot = count.0; few_slots = count.1; encoding = all_have_encoding is each; targets = targets })
    aimed count each (inr first) = inr (Target first.0, no_target count.2 (all_have_encoding is each) first.1)

    encoded : (0 < slots is) × (slots is ≤ max_slots) × (IsBadCount is → ⊥) → Found (λ s i. HasEncoding i) (layout is) → IsProgram is ⊎ ((e : BuildError) × IsNoProgram is e)
    encoded count (inl each) = aimed count each (find (HasTarget (layout is)) (target_or_not (layout is)) (layout is))
    encoded count (inr first) = inr (NoEncoding first.0, no_encoding count.2 first.1)

    counted : (IsBadCount is) ⊎ ((0 < slots is) × (slots is ≤ max_slots) × (IsBadCount is → ⊥)) → IsProgram is ⊎ ((e : BuildError) × IsNoProgram is e)
    counted (inl bad) = inr (Length, bad_count bad)
    counted (inr count) = encoded count (find (λ s i. HasEncoding i) (λ s i. encoding_or_not i) (layout is))
