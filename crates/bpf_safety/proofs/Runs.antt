-- Runs: what two of them have in common, and that one which has ended goes no further.
use Rattle.std.proofs.Common.{◌≡◌, ℕ, zero, suc, ◌+◌, ◌≤◌, ◌<◌, ◌⊎◌, inl, inr, refl, sym, ap, ◌∙◌, subst, arith, is_some}
use Rattle.std.proofs.lemmas.Bool.{cases_order}
use Rattle.bpf_insn.specs.Instruction.{Instructions}
use Rattle.bpf_semantics.specs.MachineLaws.{FinishIsLast, StuckHasReason, StepKeepsContext}
use Rattle.bpf_semantics.specs.State as machine
use Rattle.bpf_semantics.specs.Step.{Step, Finish}
use Rattle.bpf_semantics.specs.Run.{Steps, IsDone}
use Rattle.bpf_safety.specs.Theorems.{SafeHasNoFault, SafeEnds}
use Rattle.bpf_safety.proofs.Basics.{some_is}

one_step : (p : Instructions) (s t u : machine.State) → Step p s t → Step p s u → t ≡ u
one_step p s t u a b = some_is t u (sym a ∙ b)

pub same_run : (p : Instructions) (k : ℕ) (s t u : machine.State) → Steps p k s t → Steps p k s u → t ≡ u
same_run p zero s t u a b = a ∙ sym b
same_run p (suc k) s t u a b = one_step p a.0 t u a.2 (subst (λ z. Step p z u) (sym (same_run p k s a.0 b.0 a.1 b.1)) b.2)

-- a run that is longer has a step there
pub goes_on : (p : Instructions) (j k : ℕ) (s t u : machine.State) → Steps p j s t → Steps p k s u → j < k → (v : machine.State) × Step p t v
goes_on p j zero s t u a b lt = absurd (omega arith)
goes_on p j (suc k) s t u a b lt = by_order (λ less. goes_on p j k s t b.0 a b.1 less) (cases_order j k)
  where
    by_order : (j < k → (v : machine.State) × Step p t v) → (j ≡ k) ⊎ ((j < k) ⊎ (k < j)) → (v : machine.State) × Step p t v
    by_order later (inl e) = (u, subst (λ z. Step p z u) (same_run p k s b.0 t b.1 (subst (λ n. Steps p n s t) e a)) b.2)
    by_order later (inr (inl less)) = later less
    by_order later (inr (inr more)) = absurd (omega arith)

-- a step before a run
pub first_step : (p : Instructions) (k : ℕ) (s t u : machine.State) → Step p s t → Steps p k t u → Steps p (suc k) s u
first_step p zero s t u step run = (s, refl, subst (λ z. Step p s z) (sym run) step)
first_step p (suc k) s t u step run = (run.0, first_step p k s t run.0 step run.1, run.2)

-- a run before a run
pub runs : (p : Instructions) (j k : ℕ) (s t u : machine.State) → Steps p j s t → Steps p k t u → Steps p (j + k) s u
runs p j zero s t u a b = let e : j ≡ j + zero = omega arith in subst (λ n. Steps p n s u) e (subst (λ z. Steps p j s z) (sym b) a)
runs p j (suc k) s t u a b = let e : suc (j + k) ≡ j + suc k = omega arith in subst (λ n. Steps p n s u) e (b.0, runs p j k s t b.0 a b.1, b.2)

-- where a run has ended, no other is longer
pub no_longer : FinishIsLast → (p : Instructions) (n k : ℕ) (s t u : machine.State) (v : ℕ) → Steps p n s t → Finish p t v → Steps p k s u → k ≤ n
no_longer last p n k s t u v run end other = by_order (cases_order k n)
  where
    by_order : (k ≡ n) ⊎ ((k < n) ⊎ (n < k)) → k ≤ n
    by_order (inl e) = omega arith
    by_order (inr (inl less)) = omega arith
    by_order (inr (inr more)) = let g = goes_on p n k s t u run other more in absurd (last p t g.0 v end g.1)

-- no step changes the context
pub same_context : StepKeepsContext → (p : Instructions) (k : ℕ) (s t : machine.State) → Steps p k s t → t.context ≡ s.context
same_context keeps p zero s t run = ap (λ z. z.context) run
same_context keeps p (suc k) s t run = keeps p run.0 t run.2 ∙ same_context keeps p k s run.0 run.1

-- ---- runs of a safe program

pub safe_has_no_fault : StuckHasReason → SafeHasNoFault
safe_has_no_fault has p least most bound context slot reason k program safe is_context fault = safe.never_stuck context k fault.state is_context fault.steps ((has p fault.state program).1 (ap is_some fault.reason_is))

pub safe_ends : FinishIsLast → SafeEnds
safe_ends last p least most bound fuel context safe is_context enough can = let e = safe.ends context is_context in by_steps e.value e.steps e.in_time e.done
  where
    by_steps : (v n : ℕ) → n ≤ bound → IsDone p context v n → ⊥
    by_steps v zero le done = done
    by_steps v (suc n) le done = let l = no_longer last p n fuel (machine.start context) done.0 can.0 v done.1 done.2 can.1 in absurd (omega arith)
