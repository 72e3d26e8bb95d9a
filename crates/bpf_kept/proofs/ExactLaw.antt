-- A run that ends on the exact machine ends so on plain addresses.
use Rattle.std.proofs.Common.{◌≡◌, ℕ, zero, suc, ◌+◌, ◌%◌, ◌<◌, ◌≤◌, ◌==◌, inl, inr, refl, sym, ap, ◌∙◌, subst, arith, true, List, ◌∷◌, length, Some, None}
use Rattle.std.specs.Prelude.{ltb, ◌&&◌, option_and_then, option_map, if◌then◌else◌}
use Rattle.std.proofs.lemmas.Bool.{cond_both, cond-true, lt-ltb, and_parts, cases_order, cases_eq}
use Rattle.std.proofs.lemmas.Option.{none-some, same_Some}
use Rattle.bpf_insn.specs.Effects.{Access, access_of}
use Rattle.bpf_insn.specs.Image.{IsProgram}
use Rattle.bpf_insn.specs.Instruction.{Instructions, byte_count, insn_at, target}
use Rattle.bpf_insn.specs.Laws.{AreBytes}
use Rattle.bpf_insn.specs.declared.order.Order.{Order}
use Rattle.bpf_insn.specs.declared.instruction.Reg.TheVariants.{R0}
use Rattle.bpf_insn.specs.declared.instruction.Insn.{Insn}
use Rattle.bpf_insn.specs.declared.instruction.Insn.TheVariants.{CallLocal, Exit}
use Rattle.bpf_semantics.specs.State.{State, IsState, depth, frame_bytes, max_frames, start}
use Rattle.bpf_semantics.specs.Memory.{Location}
use Rattle.bpf_semantics.specs.Memory.Location.{InContext, InFrame}
use Rattle.bpf_semantics.specs.Step.{Step, step_of, does, Finish}
use Rattle.bpf_semantics.specs.Run.{Steps, state_after}
use Rattle.bpf_semantics.specs.Flat.{Placement, FlatState, FlatDoes, FlatStep, FlatReturn, FlatFinish, IsAmong, addresses, frame_start, flat_register}
use Rattle.bpf_semantics.specs.Placement.{IsPlacement, Fits, StaysInside}
use Rattle.bpf_semantics.proofs.FlatAccess.{size_some}
use Rattle.bpf_semantics.proofs.FlatBase.{stands}
use Rattle.bpf_semantics.proofs.FlatCall.{returns_length}
use Rattle.bpf_semantics.proofs.FlatLaw.{flat_follows, flat_finishes}
use Rattle.bpf_semantics.proofs.FlatLoad.{place_address, place_fits}
use Rattle.bpf_semantics.proofs.FlatStore.{frames_are_apart}
use Rattle.bpf_semantics.proofs.RunLaw.{runs_keep_states, runs_are_one, steps_are_computed}
use Rattle.bpf_semantics.proofs.SlotLaw.{step_keeps_context}
use Rattle.bpf_semantics.proofs.StateLemmas.{IsGood}
use Rattle.bpf_kept.specs.Zero.{zero_start, zero_entered, zero_left, zero_does, zero_step, zero_after, IsZeroState}
use Rattle.bpf_kept.specs.Far.{near, wide}
use Rattle.bpf_kept.specs.Meaning.{Bounds, FlatEnds, LeavesLowestFlat, counted, turns_to, turns_in_call}
use Rattle.bpf_kept.specs.Exact.{is_at, visits, LeavesLowest}
use Rattle.bpf_kept.specs.Laws.{ExactRunsAreFlat, FlatMeaningIsExact}
use Rattle.bpf_kept.proofs.AccessesLemmas.{goes}
use Rattle.bpf_kept.proofs.CertifiedLaw.{goes_on}
use Rattle.bpf_kept.proofs.PacketLaw.{given_is}
use Rattle.bpf_kept.proofs.FarLaw.{far_is_placement}
use Rattle.bpf_kept.proofs.ZeroLaw.{placed_short, zero_start_fits, zero_step_is_step}

-- ---- where the flat machine has a step, the run that takes 0 has one

left_some : (f g : FlatState) → FlatReturn f g → (h : FlatState) × (zero_left f.returns f ≡ Some h)
left_some f g r =
    let t : FlatState = record { slot = r.record_of.slot; registers = flat_register f R0 ∷ 0 ∷ 0 ∷ 0 ∷ 0 ∷ 0 ∷ r.record_of.saved; memory = f.memory; returns = g.returns } in
    (t, ap (λ rs. zero_left rs f) r.returns_are)

does_some : (place : Placement) (order : Order) (i : Insn) (f g : FlatState) → FlatDoes place order i f g → (h : FlatState) × (zero_does place order i f ≡ Some h)
does_some place order (CallLocal off) f g c = (
  zero_entered place f g.slot,
  cond-true (ltb (suc (length f.returns)) max_frames) (option_map (zero_entered place f) (target f.slot off)) None (lt-ltb (suc (length f.returns)) max_frames c.room) ∙ ap (option_map (zero_entered place f)) c.slot_is,
)
does_some place order Exit f g r = left_some f g r
does_some place order i f g e = (g, e)

pub step_some : (place : Placement) (p : Instructions) (f g : FlatState) → FlatStep place p f g → (h : FlatState) × (zero_step place p f ≡ Some h)
unfolding zero_step
step_some place p f g s =
    let d = does_some place p.order s.insn f g s.does in
    (d.0, ap (option_and_then (λ i. zero_does place p.order i f)) s.stands ∙ d.1)

-- ---- accesses

-- one that lies in the context, or in a frame above its lowest bytes, isn't among the lowest bytes of any
misses : (place : Placement) (len size b n untouched : ℕ) (s : State) (l : Location) → IsPlacement len place → len ≡ length s.context → depth s < max_frames → n ≤ depth s → b < size → untouched ≤ frame_bytes → ((m first : ℕ) → l ≡ InFrame m first → untouched ≤ first)
    → IsGood s size l → IsAmong (frame_start place n) untouched ((place_address place l + b) % addresses) → ⊥
misses place len size b n untouched s (InContext i) placed e few live lt most above good among =
    let n8 : n < max_frames = omega arith in
    let inside = placed.context_inside in
    let p0 = among.0 in
    let p1 = among.1 in
    let small : (place.context + i + b) % addresses ≡ place.context + i + b = omega arith in
    placed.context_apart n n8 (place.context + i + b) (omega arith, omega arith) (omega arith, omega arith)
misses place len size b n untouched s (InFrame m first) placed e few live lt most above good among =
    let n8 : n < max_frames = omega arith in
    let deep = good.0 in
    let fits = good.1 in
    let m8 : m < max_frames = omega arith in
    let inside = placed.frame_inside m m8 in
    let from = above m first refl in
    let p0 = among.0 in
    let p1 = among.1 in
    let small : (frame_start place m + first + b) % addresses ≡ frame_start place m + first + b = omega arith in
    by_frame m8 n8 (omega arith, omega arith) (omega arith, omega arith) (λ same. let z : frame_start place m ≡ frame_start place n = ap (frame_start place) same in omega arith)
  where
    by_frame : m < max_frames → n < max_frames → IsAmong (frame_start place m) frame_bytes (frame_start place m + first + b) → IsAmong (frame_start place n) frame_bytes (frame_start place m + first + b) → (m ≡ n → ⊥) → ⊥
    by_frame m8 n8 here there other = elim (cases_eq m n) [
      | inl same ↦ other same
      | inr differ ↦ frames_are_apart place len m n placed m8 n8 (λ e. differ (sym e)) (frame_start place m + first + b) here there
    ]

-- ---- runs

exit_stays : (place : Placement) (len : ℕ) (p : Instructions) (f : FlatState) → insn_at p.list f.slot ≡ Some Exit → StaysInside place len p f
exit_stays place len p f there =
    record {
      reads = λ i a j e access reads lt. absurd (no_access i a (same_Some Exit i (sym there ∙ e)) access);
      writes = λ i a j e access writes lt. absurd (no_access i a (same_Some Exit i (sym there ∙ e)) access);
    }
  where
    no_access : (i : Insn) (a : Access) → Exit ≡ i → access_of i ≡ Some a → ⊥
    no_access i a is access = none-some a (ap access_of is ∙ access)

visits_more : (p : Instructions) (s : State) (slot j k : ℕ) → j ≤ k → visits p s j slot ≤ visits p s k slot
visits_more p s slot j zero le = let z : j ≡ 0 = omega arith in subst (λ n. visits p s n slot ≤ 0) (sym z) (omega arith)
visits_more p s slot j (suc k) le = elim (cases_order j (suc k)) [
  | inl same ↦ subst (λ n. visits p s n slot ≤ visits p s (suc k) slot) (sym same) (omega arith)
  | inr other ↦ elim other [
    | inl less ↦ (let h = visits_more p s slot j k (omega arith) in omega arith)
    | inr past ↦ absurd (omega arith)
  ]
]

-- a state that is counted stands at the slot
turn_below : (slot deep before : ℕ) (f : FlatState) (s : State) → f.slot ≡ s.top.slot → turns_to slot deep (Some f) before ≤ before + (if is_at slot (Some s) then 1 else 0)
turn_below slot deep before f s e =
    cond_both (ltb (length f.returns) deep) 0 (counted slot deep f + before) (λ n. n ≤ before + (if is_at slot (Some s) then 1 else 0)) (λ h. omega arith)
    (λ h. cond_both (f.slot == slot && length f.returns == deep) 1 0 (λ n. n + before ≤ before + (if is_at slot (Some s) then 1 else 0))
    (λ both. let there : (s.top.slot == slot) ≡ true = subst (λ n. (n == slot) ≡ true) e (and_parts (f.slot == slot) (length f.returns == deep) both).0 in
    subst (λ n. 1 + before ≤ before + n) (sym (cond-true (s.top.slot == slot) 1 0 there)) (omega arith))
    (λ other. omega arith))

module _ (place : Placement) (p : Instructions) (program : IsProgram p.list) (context : List ℕ) (bytes : AreBytes context) (placed : IsPlacement (length context) place) (bounds : Bounds) (lowest : bounds.untouched ≤ frame_bytes) (v k : ℕ)
    (last : State) (run : Steps p k (start context) last) (end : Finish p last v) (few : (slot : ℕ) → visits p (start context) (suc k) slot ≤ bounds.turns)
    (leaves : (j : ℕ) (s : State) → j < suc k → Steps p j (start context) s → LeavesLowest p bounds.untouched s) where
  abbrev begin : FlatState
  begin = zero_start place context

  record FitsAt (j : ℕ) : Type 0 where
    state : State
    flat : FlatState
    steps : Steps p j (start context) state
    fits : Fits p.order place state flat
    zero : IsZeroState flat
    after : zero_after place p j begin ≡ Some flat

  context_same : (j : ℕ) (s : State) → Steps p j (start context) s → s.context ≡ context
  context_same zero s steps = ap (λ z. z.context) steps
  context_same (suc j) s steps = step_keeps_context p steps.0 s steps.2 ∙ context_same j steps.0 steps.1

  state_is : (j : ℕ) (s : State) → Steps p j (start context) s → IsState s
  state_is j s steps = runs_keep_states p context j s program bytes (placed_short (length context) place placed) steps

  placed_at : (j : ℕ) (s : State) → Steps p j (start context) s → IsPlacement (length s.context) place
  placed_at j s steps = subst (λ c. IsPlacement (length c) place) (sym (context_same j s steps)) placed

  step_at : (j : ℕ) (s : State) → Steps p j (start context) s → j < k → (t : State) × Step p s t
  step_at j s steps lt = goes_on runs_are_one p j k (start context) s last steps run lt

  fits_at : (j : ℕ) → j ≤ k → FitsAt j
  unfolding zero_after
  fits_at zero le = let h = zero_start_fits p.order place context bytes placed in record { state = start context; flat = begin; steps = refl; fits = h.0; zero = h.1; after = refl }
  fits_at (suc j) le =
      let h = fits_at j (omega arith) in
      let t = step_at j h.state h.steps (omega arith) in
      let fl = flat_follows place p h.state t.0 h.flat program (state_is j h.state h.steps) (placed_at j h.state h.steps) h.fits t.1 in
      let g = step_some place p h.flat fl.has_step.0 fl.has_step.1 in
      let z = zero_step_is_step place p h.flat g.0 program h.zero g.1 in
      record { state = t.0; flat = g.0; steps = (h.state, h.steps, t.1); fits = fl.fits g.0 z.0; zero = z.1; after = ap (option_and_then (zero_step place p)) h.after ∙ g.1 }

  -- at the last state the run is at EXIT
  last_is : FlatFinish p (fits_at k (omega arith)).flat v
  last_is =
      let h = fits_at k (omega arith) in
      (flat_finishes place p h.state h.flat v h.fits (subst (λ s. Finish p s v) (runs_are_one p k (start context) last h.state run h.steps) end)).0

  stays_at : (j : ℕ) (le : j ≤ k) → StaysInside place (length context) p (fits_at j le).flat
  stays_at j le = elim (cases_order j k) [
    | inl same ↦ (let h = fits_at j le in
        let end' : Finish p h.state v = subst (λ s. Finish p s v) (runs_are_one p k (start context) last h.state run (subst (λ n. Steps p n (start context) h.state) same h.steps)) end in
        exit_stays place (length context) p h.flat (flat_finishes place p h.state h.flat v h.fits end').0.stands)
    | inr other ↦ elim other [
      | inl less ↦ (let h = fits_at j le in
          let t = step_at j h.state h.steps less in
          subst (λ n. StaysInside place n p h.flat) (ap length (context_same j h.state h.steps)) (flat_follows place p h.state t.0 h.flat program (state_is j h.state h.steps) (placed_at j h.state h.steps) h.fits t.1).inside)
      | inr past ↦ absurd (omega arith)
    ]
  ]

  leaves_at : (j : ℕ) (le : j ≤ k) → LeavesLowestFlat place p bounds.untouched (fits_at j le).flat
  unfolding step_of
  leaves_at j le i a b n there access other lt live among = elim (cases_order j k) [
    | inl same ↦ (let h = fits_at j le in
        let end' : Finish p h.state v = subst (λ s. Finish p s v) (runs_are_one p k (start context) last h.state run (subst (λ n. Steps p n (start context) h.state) same h.steps)) end in
        let exit : i ≡ Exit = same_Some i Exit (sym there ∙ (flat_finishes place p h.state h.flat v h.fits end').0.stands) in
        none-some a (ap access_of (sym exit) ∙ access))
    | inr more ↦ elim more [
      | inl less ↦ (let h = fits_at j le in
          let t = step_at j h.state h.steps less in
          let here : insn_at p.list h.state.top.slot ≡ Some i = ap (insn_at p.list) (sym h.fits.slot_is) ∙ there in
          let d : does p.order i h.state ≡ Some t.0 = ap (option_and_then (λ i. does p.order i h.state)) (sym here) ∙ t.1 in
          let g = goes p.order i a h.state t.0 d access in
          let is = state_is j h.state h.steps in
          let deep : length h.flat.returns ≡ depth h.state = returns_length place h.state.waiting h.flat.returns h.fits.returns_fit in
          let there' = place_fits place h.state (byte_count a.size) a.offset g.base (flat_register h.flat a.base) g.location (size_some a.size) (placed_at j h.state h.steps) is.few_frames (stands h.fits a.base g.base g.base_is) g.location_is in
          misses place (length h.state.context) (byte_count a.size) b n bounds.untouched h.state g.location (placed_at j h.state h.steps) refl is.few_frames (omega arith) lt lowest
          (λ m first e. leaves j h.state (omega arith) h.steps i a g.base m first here access other g.base_is (g.location_is ∙ ap Some e)) there'.good
          (subst (λ z. IsAmong (frame_start place n) bounds.untouched ((z + b) % addresses)) there'.address_is among))
      | inr past ↦ omega arith
    ]
  ]

  turns_below : (slot deep j : ℕ) → j ≤ k → turns_in_call place p begin slot deep j ≤ visits p (start context) (suc j) slot
  unfolding turns_in_call state_after
  turns_below slot deep zero le = turn_below slot deep 0 begin (start context) refl
  turns_below slot deep (suc j) le =
      let h = fits_at (suc j) le in
      let earlier = turns_below slot deep j (omega arith) in
      let at : state_after p (suc j) (start context) ≡ Some h.state = (steps_are_computed p (suc j) (start context) h.state).0 h.steps in
      let here = turn_below slot deep (turns_in_call place p begin slot deep j) h.flat h.state h.fits.slot_is in
      let new : turns_to slot deep (zero_after place p (suc j) begin) (turns_in_call place p begin slot deep j) ≡ turns_to slot deep (Some h.flat) (turns_in_call place p begin slot deep j) = ap (λ o. turns_to slot deep o (turns_in_call place p begin slot deep j)) h.after in
      let old : ◌≡◌ {A = ℕ} (if is_at slot (state_after p (suc j) (start context)) then 1 else 0) (if is_at slot (Some h.state) then 1 else 0) = ap (λ o. if is_at slot o then 1 else 0) at in
      rw (new, old) (omega arith)

  pub flat_ends : FlatEnds place p context bounds v k
  flat_ends =
      record {
        last = (fits_at k (omega arith)).flat;
        run = (fits_at k (omega arith)).after;
        finish = last_is;
        stays = λ j f le e. let h = fits_at j le in subst (StaysInside place (length context) p) (same_Some h.flat f (sym h.after ∙ e)) (stays_at j le);
        leaves = λ j f le e. let h = fits_at j le in subst (LeavesLowestFlat place p bounds.untouched) (same_Some h.flat f (sym h.after ∙ e)) (leaves_at j le);
        few = λ j f le e. let a = turns_below f.slot (length f.returns) j le in let b = visits_more p (start context) f.slot (suc j) (suc k) (omega arith) in let c = few f.slot in omega arith;
      }

pub exact_runs_are_flat : ExactRunsAreFlat
exact_runs_are_flat place p context bounds v k program bytes placed lowest ends = flat_ends place p program context bytes placed bounds lowest v k ends.done.0 ends.done.1 ends.done.2 ends.few ends.leaves

-- ---- what is kept

pub flat_meaning_is_exact : FlatMeaningIsExact
flat_meaning_is_exact old new notes bounds program short lowest keeps own context v zero bytes long given ends = absurd ends.done
flat_meaning_is_exact old new notes bounds program short lowest keeps own context v (suc k) bytes long given ends =
    let is = given_is bounds.padded old.order own context bytes given in
    let less = is.1 in
    let placed = far_is_placement bounds.padded (length own) (omega arith) in
    keeps own context v k k bytes long given (exact_runs_are_flat (near bounds.padded) old own bounds v k program is.0 placed.0 lowest ends) (exact_runs_are_flat (wide bounds.padded) old own bounds v k program is.0 placed.1 lowest ends)
