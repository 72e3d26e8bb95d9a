-- A run that ends comes to its EXIT step by step.
use Rattle.std.proofs.Common.{◌≡◌, ℕ, zero, suc, ◌<◌, List, Some, refl, ap, sym, subst, ◌∙◌, arith, ◌⊎◌, inl, inr, Bool, true, false}
use Rattle.std.specs.Prelude.{is_some}
use Rattle.std.proofs.lemmas.Bool.{cases_order, true≢false}
use Rattle.bpf_insn.specs.Instruction.{Instructions}
use Rattle.bpf_insn.specs.Image.{IsProgram}
use Rattle.bpf_semantics.specs.State.{State, start}
use Rattle.bpf_semantics.specs.Step.{Step, Finish}
use Rattle.bpf_semantics.specs.Stuck.{reason_of}
use Rattle.bpf_semantics.specs.Run.{Steps, IsDone}
use Rattle.bpf_semantics.specs.MachineLaws.{FinishIsLast, StuckHasReason, RunsAreOne}
use Rattle.bpf_machine.specs.Running.{Running}
use Rattle.bpf_machine.specs.Answers.{IsStep}
use Rattle.bpf_machine.specs.declared.outcome.Step.{Step as StepOutcome}
use Rattle.bpf_machine.specs.declared.outcome.Step.TheVariants.{Moved, Done, Fault}
use Rattle.bpf_machine.specs.declared.outcome.Outcome.{Outcome}
use Rattle.bpf_machine.specs.declared.outcome.Outcome.TheVariants.{Done as DoneRun, Fault as FaultRun, OutOfFuel}
use Rattle.bpf_follows.specs.Exits.{IsDoneAt}

-- a run that is longer has a step there
goes_on : RunsAreOne → (p : Instructions) (j k : ℕ) (s t u : State) → Steps p j s t → Steps p k s u → j < k → (v : State) × Step p t v
goes_on one p j zero s t u a b lt = absurd (omega arith)
goes_on one p j (suc k) s t u a b lt = by_order (λ less. goes_on one p j k s t b.0 a b.1 less) (cases_order j k)
  where
    by_order : (j < k → (v : State) × Step p t v) → (j ≡ k) ⊎ ((j < k) ⊎ (k < j)) → (v : State) × Step p t v
    by_order later (inl e) = (u, subst (λ z. Step p z u) (one p k s b.0 t b.1 (subst (λ n. Steps p n s t) e a)) b.2)
    by_order later (inr (inl less)) = later less
    by_order later (inr (inr more)) = absurd (omega arith)

-- a run ends in one state
pub one_end : FinishIsLast → RunsAreOne → (p : Instructions) (n m : ℕ) (first s t : State) (v w : ℕ) → Steps p n first s → Finish p s v → Steps p m first t → Finish p t w → s ≡ t
one_end last one p n m first s t v w run end other end' = by_order (cases_order n m)
  where
    by_order : (n ≡ m) ⊎ ((n < m) ⊎ (m < n)) → s ≡ t
    by_order (inl same) = one p m first s t (subst (λ k. Steps p k first s) same run) other
    by_order (inr (inl less)) = let g = goes_on one p n m first s t run other less in absurd (last p s g.0 v end g.1)
    by_order (inr (inr more)) = let g = goes_on one p m n first t s other run more in absurd (last p t g.0 w end' g.1)

-- some steps of a run that ends are made, and another one follows where it isn't at its EXIT
pub step_on : FinishIsLast → StuckHasReason → RunsAreOne → (p : Instructions) (context : List ℕ) (v j k : ℕ) (old new : Running) (outcome : StepOutcome) → IsProgram p.list
    → old.program ≡ p → Steps p j (start context) old.state → suc j < k → IsDone p context v k → IsStep old outcome new → (new.program ≡ p) × Steps p (suc j) (start context) new.state
step_on last stuck one p context v j zero old new outcome prog program made less done step = absurd (omega arith)
step_on last stuck one p context v j (suc k) old new outcome prog program made less done step = by_outcome outcome step
  where
    ahead : (t : State) × Step p old.state t
    ahead = goes_on one p j k (start context) old.state done.0 made done.1 (omega arith)

    by_outcome : (outcome : StepOutcome) → IsStep old outcome new → (new.program ≡ p) × Steps p (suc j) (start context) new.state
    by_outcome Moved moved = (moved.0 ∙ program, (old.state, made, subst (λ q. Step q old.state new.state) program moved.1))
    by_outcome (Done w) ends = absurd (last p old.state ahead.0 w (subst (λ q. Finish q old.state w) program ends.1) ahead.1)
    by_outcome (Fault reason) fails =
        let why : reason_of p old.state ≡ Some reason = ap (λ q. reason_of q old.state) (sym program) ∙ fails.1 in
        absurd (((stuck p old.state prog).1 (ap is_some why)).no_step ahead.0 ahead.1)

-- where all but the last are made, it is at its EXIT
pub done_at : RunsAreOne → (p : Instructions) (context : List ℕ) (v k : ℕ) (s : State) → ((j : ℕ) → suc j ≡ k → Steps p j (start context) s) → IsDone p context v k → IsDoneAt p context s.top.slot v k
done_at one p context v zero s made done = done
done_at one p context v (suc k) s made done = (s, made k refl, subst (λ t. Finish p t v) (one p k (start context) done.0 s done.1 (made k refl)) done.2, refl)

-- how many instructions an outcome tells
abbrev pub done_steps : Outcome → ℕ
done_steps (DoneRun v k) = k
done_steps (FaultRun slot reason k) = k
done_steps OutOfFuel = 0

abbrev pub is_end : Outcome → Bool
is_end (DoneRun v k) = true
is_end (FaultRun slot reason k) = false
is_end OutOfFuel = false

-- a run that ends with a number has no other outcome
pub not_done : (v k : ℕ) (other : Outcome) → DoneRun v k ≡ other → is_end other ≡ false → ⊥
not_done v k other same ends = true≢false (ap is_end same ∙ ends)
