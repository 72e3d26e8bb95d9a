-- All runs at all far placements, and the one that takes 0.
use Rattle.std.proofs.Common.{◌≡◌, ℕ, zero, suc, ◌+◌, ◌≤◌, inl, inr, refl, sym, ap, ◌∙◌, subst, arith, Bool, true, false, List, length, Some}
use Rattle.std.specs.Prelude.{option_and_then}
use Rattle.std.proofs.lemmas.Option.{same_Some, option_and_then_some}
use Rattle.bpf_insn.specs.Image.{IsProgram}
use Rattle.bpf_insn.specs.Instruction.{Instructions}
use Rattle.bpf_insn.specs.Laws.{AreBytes}
use Rattle.bpf_semantics.specs.Flat.{Placement, FlatState, FlatSteps, FlatFinish}
use Rattle.bpf_semantics.specs.Placement.{IsPlacement, IsFlatStart}
use Rattle.bpf_kept.specs.Far.{near, wide, near_gap, wide_gap}
use Rattle.bpf_kept.specs.Zero.{zero_start, zero_step, zero_after, IsZeroState}
use Rattle.bpf_kept.specs.Meaning.{Bounds, FlatEnds, turns_to, turns_in_call}
use Rattle.bpf_kept.specs.Anywhere.{IsFar, turns_along, EndsAnyhow}
use Rattle.bpf_kept.specs.Laws.{NearAndWideAreFar, ZeroRunEnds, FlatMeaningIsFar}
use Rattle.bpf_kept.proofs.FarLaw.{far_frame, far_is_placement}
use Rattle.bpf_kept.proofs.ZeroLaw.{zero_start_fits, zero_step_is_step}
use Rattle.bpf_kept.proofs.ExactLaw.{step_some}
use Rattle.bpf_kept.proofs.PacketLaw.{given_is}

-- ---- the two placements

near_is_far : (padded : Bool) → IsFar padded (near padded)
near_is_far true =
    record {
      eight = refl;
      context_at = omega arith;
      context_inside = (omega arith, omega arith);
      frame_at = λ n h. let e = far_frame true near_gap n h in omega arith;
      frame_inside = λ n h. let e = far_frame true near_gap n h in (omega arith, omega arith);
      context_apart = λ n h. let e = far_frame true near_gap n h in inr (omega arith);
      frames_apart = λ m n less h. let e = far_frame true near_gap n h in let d = far_frame true near_gap m (omega arith) in inl (omega arith);
    }
near_is_far false =
    record {
      eight = refl;
      context_at = omega arith;
      context_inside = (omega arith, omega arith);
      frame_at = λ n h. let e = far_frame false near_gap n h in omega arith;
      frame_inside = λ n h. let e = far_frame false near_gap n h in (omega arith, omega arith);
      context_apart = λ n h. let e = far_frame false near_gap n h in inr (omega arith);
      frames_apart = λ m n less h. let e = far_frame false near_gap n h in let d = far_frame false near_gap m (omega arith) in inl (omega arith);
    }

wide_is_far : (padded : Bool) → IsFar padded (wide padded)
wide_is_far true =
    record {
      eight = refl;
      context_at = omega arith;
      context_inside = (omega arith, omega arith);
      frame_at = λ n h. let e = far_frame true wide_gap n h in omega arith;
      frame_inside = λ n h. let e = far_frame true wide_gap n h in (omega arith, omega arith);
      context_apart = λ n h. let e = far_frame true wide_gap n h in inr (omega arith);
      frames_apart = λ m n less h. let e = far_frame true wide_gap n h in let d = far_frame true wide_gap m (omega arith) in inl (omega arith);
    }
wide_is_far false =
    record {
      eight = refl;
      context_at = omega arith;
      context_inside = (omega arith, omega arith);
      frame_at = λ n h. let e = far_frame false wide_gap n h in omega arith;
      frame_inside = λ n h. let e = far_frame false wide_gap n h in (omega arith, omega arith);
      context_apart = λ n h. let e = far_frame false wide_gap n h in inr (omega arith);
      frames_apart = λ m n less h. let e = far_frame false wide_gap n h in let d = far_frame false wide_gap m (omega arith) in inl (omega arith);
    }

pub near_and_wide_are_far : NearAndWideAreFar
near_and_wide_are_far padded = (near_is_far padded, wide_is_far padded)

-- ---- the run that takes 0 is one of them

further : (place : Placement) (p : Instructions) (first : FlatState) (j : ℕ) (f g : FlatState) → zero_after place p j first ≡ Some f → zero_step place p f ≡ Some g → zero_after place p (suc j) first ≡ Some g
unfolding zero_after
further place p first j f g e h = ap (option_and_then (zero_step place p)) e ∙ h

module _ (place : Placement) (p : Instructions) (program : IsProgram p.list) (own : List ℕ) (bytes : AreBytes own) (placed : IsPlacement (length own) place) (bounds : Bounds) (v : ℕ) (ends : EndsAnyhow place p own bounds v) where
  abbrev begin : FlatState
  begin = zero_start place own

  starts : IsFlatStart p.order place own begin
  starts = (zero_start_fits p.order place own bytes placed).0

  -- a state of the run that takes 0, as a state of a run, with as many turns
  record IsRun (j : ℕ) (f : FlatState) : Type 0 where
    steps : FlatSteps place p j begin f
    state : IsZeroState f
    turns : (slot deep : ℕ) → turns_in_call place p begin slot deep j ≡ turns_along place p slot deep j begin f steps

  is_run : (j : ℕ) (f : FlatState) → zero_after place p j begin ≡ Some f → IsRun j f
  unfolding zero_after turns_in_call
  is_run zero f e =
      subst (IsRun 0) (same_Some begin f e) (record { steps = refl; state = (zero_start_fits p.order place own bytes placed).1; turns = λ slot deep. refl })
  is_run (suc j) f e = option_and_then_some (zero_step place p) (zero_after place p j begin) f e (λ mid em et.
      let h = is_run j mid em in
      let z = zero_step_is_step place p mid f program h.state et in
      let same : zero_after place p (suc j) begin ≡ Some f = e in
      record {
        steps = (mid, h.steps, z.0);
        state = z.1;
        turns = λ slot deep. ap (λ o. turns_to slot deep o (turns_in_call place p begin slot deep j)) same ∙ ap (turns_to slot deep (Some f)) (h.turns slot deep);
      })

  -- it ends before it has made as many steps as none makes
  found : (left j : ℕ) (f : FlatState) → j + left ≡ ends.longest → zero_after place p j begin ≡ Some f → (k : ℕ) × (last : FlatState) × (zero_after place p k begin ≡ Some last) × FlatFinish p last v
  found zero j f e run =
      let h = is_run j f run in
      let z : j ≡ ends.longest = omega arith in
      absurd (ends.ends begin f starts (subst (λ n. FlatSteps place p n begin f) z h.steps))
  found (suc left) j f e run = elim (ends.goes j begin f starts (is_run j f run).steps) [
    | inl finish ↦ (j, f, run, finish)
    | inr next ↦ (let g = step_some place p f next.0 next.1 in found left (suc j) g.0 (omega arith) (further place p begin j f g.0 run g.1))
  ]

  pub zero_ends : (k : ℕ) × FlatEnds place p own bounds v k
  unfolding zero_after
  zero_ends =
      let x = found ends.longest 0 begin (omega arith) refl in (
        x.0,
        record {
          last = x.1;
          run = x.2;
          finish = x.3;
          stays = λ j f le e. ends.stays j begin f starts (is_run j f e).steps;
          leaves = λ j f le e. ends.leaves j begin f starts (is_run j f e).steps;
          few = λ j f le e. let h = is_run j f e in subst (λ n. n ≤ bounds.turns) (sym (h.turns f.slot (length f.returns))) (ends.few j begin f starts h.steps);
        },
      )

pub zero_run_ends : ZeroRunEnds
zero_run_ends place p own bounds v program bytes placed ends = zero_ends place p program own bytes placed bounds v ends

pub flat_meaning_is_far : FlatMeaningIsFar
flat_meaning_is_far old new notes bounds program short keeps own context v bytes long given anywhere =
    let is = given_is bounds.padded old.order own context bytes given in
    let less = is.1 in
    let placed = far_is_placement bounds.padded (length own) (omega arith) in
    let far = near_and_wide_are_far bounds.padded in
    let a = zero_run_ends (near bounds.padded) old own bounds v program is.0 placed.0 (anywhere (near bounds.padded) far.0) in
    let b = zero_run_ends (wide bounds.padded) old own bounds v program is.0 placed.1 (anywhere (wide bounds.padded) far.1) in
    (a.0, keeps own context v a.0 b.0 bytes long given a.1 b.1)
