-- What follows from the law: of a certified new program, and of the exits at which it ends.
use Rattle.std.proofs.Common.{◌≡◌, ℕ, zero, suc, ◌<◌, ◌≤◌, ◌⊎◌, inl, inr, sym, subst, arith}
use Rattle.std.proofs.lemmas.Bool.{cases_order}
use Rattle.bpf_insn.specs.Instruction.{Instructions}
use Rattle.bpf_semantics.specs.MachineLaws.{FinishIsLast, RunsAreOne}
use Rattle.bpf_semantics.specs.State.{State, start}
use Rattle.bpf_semantics.specs.Step.{Step, Finish}
use Rattle.bpf_semantics.specs.Run.{Steps}
use Rattle.bpf_safety.specs.Theorems.{CertifiedIsSafe, CertifiedDescribes}
use Rattle.bpf_kept.proofs.StatesLaw.{states_from, described_state}
use Rattle.bpf_kept.specs.Laws.{CertifiedKeepsFlatMeaning, OtherExitsAreTraps, NoExitNoAnswer}
use Rattle.bpf_kept.specs.Matching.{StandsForExit}
use Rattle.bpf_kept.proofs.Law.{matching_keeps_flat_meaning}

pub certified_keeps_flat_meaning : CertifiedIsSafe → CertifiedDescribes → CertifiedKeepsFlatMeaning
certified_keeps_flat_meaning safe describes old new notes bounds states c old_valid new_valid limits certified least most from matches =
    matching_keeps_flat_meaning old new notes bounds states old_valid new_valid matches
    (λ context k s bytes long run stuck. (safe new c new_valid limits certified).never_stuck context k s (record { bytes = bytes; length_within = (subst (λ n. c.least ≤ n) (sym long) least, subst (λ n. n ≤ c.most) (sym long) most) }) run stuck)
    (states_from describes new c bounds.length states new_valid limits certified least most from)

-- a run that is longer has a step there
pub goes_on : RunsAreOne → (p : Instructions) (j k : ℕ) (s t u : State) → Steps p j s t → Steps p k s u → j < k → (v : State) × Step p t v
goes_on one p j zero s t u a b lt = absurd (omega arith)
goes_on one p j (suc k) s t u a b lt = by_order (λ less. goes_on one p j k s t b.0 a b.1 less) (cases_order j k)
  where
    by_order : (j < k → (v : State) × Step p t v) → (j ≡ k) ⊎ ((j < k) ⊎ (k < j)) → (v : State) × Step p t v
    by_order later (inl e) = (u, subst (λ z. Step p z u) (one p k s b.0 t b.1 (subst (λ n. Steps p n s t) e a)) b.2)
    by_order later (inr (inl less)) = later less
    by_order later (inr (inr more)) = absurd (omega arith)

-- where a run has ended, no other is longer
no_longer : FinishIsLast → RunsAreOne → (p : Instructions) (n k : ℕ) (s t u : State) (v : ℕ) → Steps p n s t → Finish p t v → Steps p k s u → k ≤ n
no_longer last one p n k s t u v run end other = by_order (cases_order k n)
  where
    by_order : (k ≡ n) ⊎ ((k < n) ⊎ (n < k)) → k ≤ n
    by_order (inl e) = omega arith
    by_order (inr (inl less)) = omega arith
    by_order (inr (inr more)) = let g = goes_on one p n k s t u run other more in absurd (last p t g.0 v end g.1)

-- a run ends in one state
one_end : FinishIsLast → RunsAreOne → (p : Instructions) (n m : ℕ) (first s t : State) (v w : ℕ) → Steps p n first s → Finish p s v → Steps p m first t → Finish p t w → s ≡ t
one_end last one p n m first s t v w run end other end' =
    let a = no_longer last one p n m first s t v run end other in
    let b = no_longer last one p m n first t s w other end' run in
    let same : m ≡ n = omega arith in
    one p n first s t run (subst (λ k. Steps p k first t) same other)

pub other_exits_are_traps : FinishIsLast → RunsAreOne → OtherExitsAreTraps
other_exits_are_traps last one old new notes bounds keeps own context v w k l n s bytes long given run finish other near_ends wide_ends =
    let e = keeps own context v k l bytes long given near_ends wide_ends in
    let same : e.state ≡ s = one_end last one new e.steps n (start context) e.state s v w e.run e.finish run finish in
    other (subst (λ s. StandsForExit old notes s.top.slot) same e.at_exit)

-- where it ends, the check has a state
pub no_exit_no_answer : CertifiedDescribes → NoExitNoAnswer
no_exit_no_answer describes old new notes bounds c new_valid limits certified least most keeps none own context v k l bytes long given near_ends wide_ends =
    let e = keeps own context v k l bytes long given near_ends wide_ends in
    let d = describes new c context e.steps e.state new_valid limits certified (record { bytes = bytes; length_within = (subst (λ n. c.least ≤ n) (sym long) least, subst (λ n. n ≤ c.most) (sym long) most) }) e.run in
    none (record { slot = e.state.top.slot; reached = described_state new c e.state d; stands = e.at_exit })
