-- The flat machine follows a whole run, step by step.
use Rattle.std.proofs.Common.{◌≡◌, ℕ, zero, suc, ◌+◌, ◌≤◌, ◌<◌, ◌⊎◌, inl, inr, refl, sym, ap, ◌∙◌, subst, arith, ◌^◌, List, length, Some, is_some}
use Rattle.std.proofs.lemmas.Bool.{false≢true, cases_order, cases_lt}
use Rattle.bpf_insn.specs.declared.instruction.Insn.{Insn}
use Rattle.bpf_insn.specs.declared.instruction.Insn.TheVariants.{Exit}
use Rattle.bpf_insn.specs.Instruction.{Instructions, insn_at}
use Rattle.bpf_insn.specs.Image.{IsProgram}
use Rattle.bpf_semantics.specs.State as machine
use Rattle.bpf_semantics.specs.Step.{Step, Finish}
use Rattle.bpf_insn.specs.Effects.{Access, access_of}
use Rattle.bpf_semantics.specs.Run.{Steps}
use Rattle.bpf_semantics.specs.MachineLaws.{StepKeepsContext, RunsKeepStates}
use Rattle.bpf_semantics.specs.Flat.{addresses, frame_start, Placement, FlatState, FlatStep, FlatFinish, FlatSteps}
use Rattle.bpf_semantics.specs.FlatLaws.{FlatFollows, FlatFinishes, Follows}
use Rattle.bpf_semantics.specs.State.{frame_bytes}
use Rattle.bpf_semantics.specs.Placement.{IsPlacement, IsFlatStart, Fits, StaysInside}
use Rattle.bpf_insn.specs.Laws.{AreBytes}
use Rattle.bpf_safety.specs.Theorems.{FlatFollowsRun, ProgramIsFlatSafe}
use Rattle.bpf_safety.proofs.Basics.{some_is}
use Rattle.bpf_safety.proofs.Runs.{same_run, goes_on, same_context}

-- what the flat machine's run rests on
pub record FlatLaws : Type 0 where
  pub follows : FlatFollows
  pub finishes : FlatFinishes
  pub keeps_context : StepKeepsContext
  pub keep_states : RunsKeepStates

-- a context that is placed leaves room for the frames
placed_short : (len : ℕ) (place : Placement) → IsPlacement len place → len < 2 ^ 64
placed_short len place placed = by_order (cases_lt len (2 ^ 64))
  where
    inside : place.context + len ≤ addresses
    inside = placed.context_inside

    frame : frame_start place 0 + frame_bytes ≤ addresses
    frame = placed.frame_inside 0 (omega arith)

    -- it hasn't each address: the first frame has some
    by_order : (len < 2 ^ 64) ⊎ (2 ^ 64 ≤ len) → len < 2 ^ 64
    by_order (inl less) = less
    by_order (inr all) = absurd (placed.context_apart 0 (omega arith) (frame_start place 0) (omega arith, omega arith) (omega arith, omega arith))

-- what reads and writes nothing stays inside
exit_stays : (place : Placement) (len : ℕ) (p : Instructions) (f : FlatState) → insn_at p.list f.slot ≡ Some Exit → StaysInside place len p f
exit_stays place len p f stands =
    record {
      reads = λ i a j e access reads lt. absurd (no_access i a (some_is Exit i (sym stands ∙ e)) access);
      writes = λ i a j e access writes lt. absurd (no_access i a (some_is Exit i (sym stands ∙ e)) access);
    }
  where
    no_access : (i : Insn) (a : Access) → Exit ≡ i → access_of i ≡ Some a → ⊥
    no_access i a is access = false≢true (ap is_some (ap access_of is ∙ access))

module _ (laws : FlatLaws) (p : Instructions) (program : IsProgram p.list) (context : List ℕ) (place : Placement) (f : FlatState) (v n : ℕ) (bytes : AreBytes context) (placed : IsPlacement (length context) place) (starts : IsFlatStart p.order place context f) (last : machine.State) (run : Steps p n (machine.start context) last) (end : Finish p last v) where
  -- the flat state fits the machine's state after as many steps
  record FitsAt (j : ℕ) (g : FlatState) : Type 0 where
    pub not_past : j ≤ n
    pub state : machine.State
    pub steps : Steps p j (machine.start context) state
    pub fits : Fits p.order place state g

  length_at : (j : ℕ) (g : FlatState) (h : FitsAt j g) → length h.state.context ≡ length context
  length_at j g h = ap length (same_context laws.keeps_context p j (machine.start context) h.state h.steps)

  -- before the end the machine steps, and the flat machine follows
  follows_at : (j : ℕ) (g : FlatState) (h : FitsAt j g) → j < n → (t : machine.State) × Step p h.state t × Follows place p h.state t g
  follows_at j g h lt =
      let s = goes_on p j n (machine.start context) h.state last h.steps run lt in
      let short = placed_short (length context) place placed in
      let state = laws.keep_states p context j h.state program bytes (omega arith) h.steps in
      (s.0, s.1, laws.follows place p h.state s.0 g program state (subst (λ k. IsPlacement k place) (sym (length_at j g h)) placed) h.fits s.1)

  -- at the end both end
  finishes_at : (g : FlatState) (h : FitsAt n g) → FlatFinish p g v × ((k : FlatState) → FlatStep place p g k → ⊥)
  finishes_at g h = laws.finishes place p h.state g v h.fits (subst (λ z. Finish p z v) (same_run p n (machine.start context) last h.state run h.steps) end)

  fits_at : (j : ℕ) (g : FlatState) → FlatSteps place p j f g → FitsAt j g
  fits_at zero g steps = record { not_past = omega arith; state = machine.start context; steps = refl; fits = subst (λ h. Fits p.order place (machine.start context) h) (sym steps) starts }
  fits_at (suc j) g steps = by_order (fits_at j steps.0 steps.1)
    where
      by_order : FitsAt j steps.0 → FitsAt (suc j) g
      by_order h = by_end (cases_order j n)
        where
          by_end : (j ≡ n) ⊎ ((j < n) ⊎ (n < j)) → FitsAt (suc j) g
          by_end (inl e) = absurd ((finishes_at steps.0 (subst (λ k. FitsAt k steps.0) e h)).1 g steps.2)
          by_end (inr (inl less)) = let t = follows_at j steps.0 h less in record { not_past = less; state = t.0; steps = (h.state, h.steps, t.1); fits = t.2.fits g steps.2 }
          by_end (inr (inr more)) = let past = h.not_past in absurd (omega arith)

  follows_run : (g : FlatState) (j : ℕ) → FlatSteps place p j f g → FlatFollowsRun p place context v (suc n) j g
  follows_run g j steps = by_end (cases_order j n)
    where
      h : FitsAt j g
      h = fits_at j g steps

      by_end : (j ≡ n) ⊎ ((j < n) ⊎ (n < j)) → FlatFollowsRun p place context v (suc n) j g
      by_end (inl e) =
          let finish = finishes_at g (subst (λ k. FitsAt k g) e h) in
          record { not_past = omega arith; inside = exit_stays place (length context) p g finish.0.stands; visits_same = (h.state, h.steps, h.fits.slot_is); goes_on = λ lt. absurd (omega arith); ends = λ at. finish }
      by_end (inr (inl less)) =
          let t = follows_at j g h less in
          record { not_past = omega arith; inside = subst (λ k. StaysInside place k p g) (length_at j g h) t.2.inside; visits_same = (h.state, h.steps, h.fits.slot_is); goes_on = λ lt. t.2.has_step; ends = λ at. absurd (omega arith) }
      by_end (inr (inr more)) = let past = h.not_past in absurd (omega arith)

pub program_is_flat_safe : FlatLaws → ProgramIsFlatSafe
program_is_flat_safe laws p least most program context place f g v zero j is_context placed starts done steps = absurd done
program_is_flat_safe laws p least most program context place f g v (suc n) j is_context placed starts done steps = follows_run laws p program context place f v n is_context.bytes placed starts done.0 done.1 done.2 g j steps
