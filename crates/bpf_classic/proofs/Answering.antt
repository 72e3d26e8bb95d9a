-- A valid filter always answers: between jumps back its length is fuel enough, and where it may jump back no more it answers 0.
use Rattle.std.proofs.Common.{◌≡◌, ℕ, zero, suc, ◌+◌, ◌-◌, ◌<◌, ◌≤◌, List, [], ◌∷◌, length, drop, Bool, true, false, cond, Option, Some, None, refl, sym, subst, arith}
use Rattle.std.specs.Prelude.{nat_le, nat_lt, ◌&&◌, ◌==◌}
use Rattle.std.proofs.lemmas.Bool.{false≢true, leb-false, ltb-false, or_parts, cond_both}
use Rattle.std.proofs.lemmas.Option.{none-some}
use Rattle.std.proofs.lemmas.List.{length-drop}
use Rattle.bpf_insn.specs.Arithmetic.{jumps}
use Rattle.bpf_insn.specs.declared.instruction.Width.TheVariants.{W32}
use Rattle.bpf_classic.specs.Machine.{Given, Machine, Next, operand, divides, same_test, bytes, read, loaded, next, go_on, run_from, turned, blank, answer_or_0}
use Rattle.bpf_classic.specs.Machine.Next.{Ends as EndsWith, Goes, Turns}
use Rattle.bpf_classic.specs.Valid.{names_no_cell, has_bad_constant, leads_outside, not_for, fault_of, AreFaultless}
use Rattle.bpf_classic.specs.declared.refusal.Kind.{Kind}
use Rattle.bpf_classic.specs.declared.refusal.Fault.{Fault}
use Rattle.bpf_classic.specs.declared.refusal.Fault.TheVariants.{Cell as CellFault, Constant as ConstantFault, Target}
use Rattle.bpf_classic.specs.declared.instruction.Classic.{Classic}
use Rattle.bpf_classic.specs.declared.instruction.Classic.TheVariants.{Constant, Length, Cell, Store, At, Index, Header, Extension, Alu, Neg, Jump, Back, JumpIf, Return, ReturnA, Tax, Txa}

-- ---- what an instruction without fault hasn't

pub record Faultless (before left : ℕ) (i : Classic) : Type 0 where
  pub cell : names_no_cell i ≡ false
  pub constant : has_bad_constant i ≡ false
  pub inside : leads_outside before left i ≡ false

no_fault : (one two three : Bool) (a b c : Fault) (rest : Option Fault) → cond one (Some a) (cond two (Some b) (cond three (Some c) rest)) ≡ None → (one ≡ false) × (two ≡ false) × (three ≡ false)
no_fault true two three a b c rest e = absurd (none-some _ (sym e))
no_fault false true three a b c rest e = absurd (none-some _ (sym e))
no_fault false false true a b c rest e = absurd (none-some _ (sym e))
no_fault false false false a b c rest e = (refl, refl, refl)

pub faultless : (kind : Kind) (before left : ℕ) (i : Classic) → fault_of kind before left i ≡ None → Faultless before left i
faultless kind before left i e =
    let parts = no_fault (names_no_cell i) (has_bad_constant i) (leads_outside before left i) CellFault ConstantFault Target (not_for kind i) e in
    record { cell = parts.0; constant = parts.1; inside = parts.2 }

-- ---- it leads on to an instruction, back to one, or answers

abbrev pub LeadsOn : ℕ → ℕ → Next → Type 0
LeadsOn before left (EndsWith v) = Unit {0}
LeadsOn before left (Goes k m) = k < left
LeadsOn before left (Turns k m) = (0 < k) × (k ≤ before + 1)

goes_next : (left : ℕ) → nat_le left 0 ≡ false → 0 < left
goes_next left e = leb-false left 0 e

loaded_on : (before left : ℕ) (o : Option ℕ) (to : ℕ → Machine) → 0 < left → LeadsOn before left (loaded o to)
loaded_on before left None to h = tt
loaded_on before left (Some n) to h = h

some_back : (k : ℕ) → (k == 0) ≡ false → 0 < k
some_back zero e = absurd (false≢true (sym e))
some_back (suc k) e = omega arith

pub leads_on : (g : Given) (before left : ℕ) (i : Classic) (m : Machine) → leads_outside before left i ≡ false → LeadsOn before left (next g i m)
unfolding next
leads_on g before left (Constant to k) m e = goes_next left e
leads_on g before left (Length to) m e = goes_next left e
leads_on g before left (Cell to i) m e = goes_next left e
leads_on g before left (Store from i) m e = goes_next left e
leads_on g before left (At size k) m e = loaded_on before left (read g k (bytes size)) _ (goes_next left e)
leads_on g before left (Index size k) m e = loaded_on before left (read g (m.x + k) (bytes size)) _ (goes_next left e)
leads_on g before left (Header k) m e = loaded_on before left (read g k 1) _ (goes_next left e)
leads_on g before left (Extension word) m e = goes_next left e
leads_on g before left (Alu op source) m e = cond_both (divides op && (operand source m == 0)) (EndsWith 0) _ (LeadsOn before left) (λ _. tt) (λ _. goes_next left e)
leads_on g before left Neg m e = goes_next left e
leads_on g before left (Jump k) m e = leb-false left k e
leads_on g before left (Back k) m e = let parts = or_parts (k == 0) (nat_lt (before + 1) k) e in (some_back k parts.0, ltb-false (before + 1) k parts.1)
leads_on g before left (JumpIf test source jt jf) m e =
    let parts = or_parts (nat_le left jt) (nat_le left jf) e in
    cond_both (jumps W32 (same_test test) m.a (operand source m)) jt jf (λ k. k < left) (λ _. leb-false left jt parts.0) (λ _. leb-false left jf parts.1)
leads_on g before left (Return k) m e = tt
leads_on g before left ReturnA m e = tt
leads_on g before left Tax m e = goes_next left e
leads_on g before left Txa m e = goes_next left e

pub drop_faultless : (kind : Kind) (before k : ℕ) (rest : List Classic) → AreFaultless kind before rest → AreFaultless kind (before + k) (drop k rest)
drop_faultless kind before zero rest h = let e : before ≡ before + 0 = omega arith in subst (λ n. AreFaultless kind n rest) e h
drop_faultless kind before (suc k) [] h = tt
drop_faultless kind before (suc k) (i ∷ rest) h = let e : before + 1 + k ≡ before + suc k = omega arith in subst (λ n. AreFaultless kind n (drop k rest)) e (drop_faultless kind (before + 1) k rest h.1)

-- ---- a run answers if it does where it jumps back

abbrev pub Returns : ℕ → (ℕ → Machine → Option ℕ) → Type 0
Returns most back = (left : ℕ) (m : Machine) → 0 < left → left ≤ most → (v : ℕ) × (back left m ≡ Some v)

pub answers : (kind : Kind) (g : Given) (back : ℕ → Machine → Option ℕ) (most n before : ℕ) (filter : List Classic) (m : Machine) → Returns most back → before + length filter ≡ most → length filter ≤ n → 0 < length filter → AreFaultless kind before filter → (v : ℕ) × (run_from back n g filter m ≡ Some v)
answers kind g back most zero before filter m returns whole few some h = absurd (omega arith)
answers kind g back most (suc n) before [] m returns whole few some h = absurd (omega arith)
answers kind g back most (suc n) before (i ∷ rest) m returns whole few some h =
    let then : ℕ → Machine → Option ℕ = λ k m'. run_from back n g (drop k rest) m' in
    let turn : ℕ → Machine → Option ℕ = λ k m'. back (length rest + k) m' in
    let by : (o : Next) → LeadsOn before (length rest) o → (v : ℕ) × (go_on o then turn ≡ Some v) =
    λ o. elim o as (λ o. LeadsOn before (length rest) o → (v : ℕ) × (go_on o then turn ≡ Some v)) [
      | EndsWith v ↦ (λ _. (v, refl))
      | Goes k m' ↦ (λ lt.
          let long = length-drop k rest in
          answers kind g back most n (before + 1 + k) (drop k rest) m' returns (omega (arith, long, whole)) (omega (arith, long)) (omega (arith, long)) (drop_faultless kind (before + 1) k rest h.1))
      | Turns k m' ↦ (λ lt. let some = lt.0 in let low = lt.1 in returns (length rest + k) m' (omega (arith, some)) (omega (arith, low, whole)))
    ] in
    by (next g i m) (leads_on g before (length rest) i m (faultless kind before (length rest) i h.0).inside)

pub turned_returns : (kind : Kind) (g : Given) (filter : List Classic) → AreFaultless kind 0 filter → (n : ℕ) → Returns (length filter) (turned (Some 0) n g filter)
turned_returns kind g filter h zero left m some few = (0, refl)
turned_returns kind g filter h (suc n) left m some few =
    let at : ℕ = length filter - left in
    let long = length-drop at filter in
    let zero_on : 0 + at ≡ at = omega arith in
    answers kind g (turned (Some 0) n g filter) (length filter) (length filter) at (drop at filter) m (turned_returns kind g filter h n) (omega (arith, long)) (omega (arith, long)) (omega (arith, long))
    (subst (λ b. AreFaultless kind b (drop at filter)) zero_on (drop_faultless kind 0 at filter h))

pub answered : (kind : Kind) (g : Given) (turns : ℕ) (filter : List Classic) → 0 < length filter → AreFaultless kind 0 filter → (v : ℕ) × (answer_or_0 turns g filter ≡ Some v)
answered kind g turns filter some h = answers kind g (turned (Some 0) turns g filter) (length filter) (length filter) 0 filter blank (turned_returns kind g filter h turns) (omega arith) (omega arith) some h
