-- The old program's two runs and the new program's, side by side: what is known in front of an old instruction, and how extra ones keep it.
use Rattle.std.proofs.Common.{◌≡◌, ◌≢◌, ◌⊎◌, inl, inr, ℕ, zero, suc, ◌+◌, ◌%◌, ◌^◌, ◌<◌, ◌≤◌, refl, sym, ap, ◌∙◌, subst, arith, Bool, true, false, List, [], ◌∷◌, length, Option, Some}
use Rattle.std.specs.Prelude.{not, FitsSigned, option_and_then}
use Rattle.std.specs.Int.{w16}
use Rattle.std.specs.List.{list_all}
use Rattle.std.proofs.lemmas.Bool.{and_parts, cond_both, eq-eqb, cases_lt, cases_eq, false≢true}
use Rattle.std.proofs.lemmas.Option.{none-some, same_Some}
use Rattle.bpf_insn.specs.Effects.{Access, access_of, is_frame_pointer}
use Rattle.bpf_insn.specs.Limits.{frame_bytes, max_frames}
use Rattle.bpf_insn.specs.Instruction.{Instructions, register_number, byte_count, insn_at}
use Rattle.bpf_insn.specs.declared.instruction.Reg.TheVariants.{R0}
use Rattle.bpf_insn.specs.declared.instruction.Size.{Size}
use Rattle.bpf_insn.specs.declared.instruction.Size.TheVariants.{B, H, W, DW}
use Rattle.bpf_insn.specs.declared.instruction.Insn.{Insn}
use Rattle.bpf_insn.specs.declared.instruction.Insn.TheVariants.{LoadImm64, CallLocal, Exit}
use Rattle.bpf_semantics.specs.State.{State, start}
use Rattle.bpf_semantics.specs.Step.{Step, does}
use Rattle.bpf_semantics.specs.Run.{Steps}
use Rattle.bpf_semantics.specs.Memory.{Location}
use Rattle.bpf_semantics.specs.Memory.Location.{InContext, InFrame}
use Rattle.bpf_semantics.specs.Flat.{Placement, FlatState, IsAmong, addresses, address, frame_start, flat_register, flat_does}
use Rattle.bpf_semantics.specs.Placement.{IsPlacement, IsInMemory, StaysInside, Fits}
use Rattle.bpf_semantics.proofs.FlatBase.{stands as stands_in}
use Rattle.bpf_semantics.proofs.FlatAccess.{size_some}
use Rattle.bpf_semantics.proofs.FlatLoad.{place_address, place_fits}
use Rattle.bpf_semantics.proofs.StateLemmas.{IsGood, encoding_at}
use Rattle.bpf_kept.specs.Far.{near_gap, wide_gap, near, wide}
use Rattle.bpf_kept.specs.Zero.{zero_start, zero_does, zero_step, zero_after, IsZeroState}
use Rattle.bpf_kept.specs.Meaning.{turns_in_call}
use Rattle.bpf_kept.specs.declared.notes.Holder.TheVariants.{Register}
use Rattle.bpf_kept.specs.declared.notes.TurnsLeft.{TurnsLeft}
use Rattle.bpf_kept.specs.declared.notes.Change.{Change}
use Rattle.bpf_kept.specs.Terms.{Packet, IsSeen, value_in}
use Rattle.bpf_kept.specs.Rules.{Known}
use Rattle.bpf_kept.specs.Counters.{Counts, AllCount, is_spared, counts_behind}
use Rattle.bpf_kept.specs.Matching.{hands_frame, left_alone}
use Rattle.bpf_kept.proofs.FarLaw.{far_is_placement}
use Rattle.bpf_kept.proofs.ZeroLaw.{zero_step_is_step}
use Rattle.bpf_kept.proofs.FrameLaw.{IsRoomy, IsEnd, Leaves, Goes}
use Rattle.bpf_kept.proofs.LevelLaw.{IsLaid, near_laid, wide_laid, roomy_at, lies_above, pointer_near, waiting_there}
use Rattle.bpf_kept.proofs.PutLaw.{AtOnce}
use Rattle.bpf_kept.proofs.EdgeLaw.{Behind}
use Rattle.bpf_kept.proofs.Isolated.{AreAlone, is_inner, does_alone, goes_to_context}
use Rattle.bpf_kept.proofs.AheadLaw.{access_near, reads_or_writes, goes_on}
use Rattle.bpf_kept.proofs.Simulation.{program, not_exit, does_there, steps_on, fits_on, new_state, new_placed}
use Rattle.bpf_kept.proofs.AccessesLemmas.{goes}
use Rattle.bpf_kept.proofs.Setting.{Setting, runs, starts_below, packet_of}

size_below : (size : Size) (j : ℕ) → j < byte_count size → j < 8
size_below B j lt = omega arith
size_below H j lt = omega arith
size_below W j lt = omega arith
size_below DW j lt = omega arith

module _ (given : Setting) where
  open given use {order, is, js, notes, bounds, old_valid, new_valid, matches, own, own_is, context, bytes, long, never, v, k, l, near_ends, wide_ends}

  abbrev pub old : Instructions
  old = program order is

  abbrev pub new : Instructions
  new = program order js

  pub short : length context < 2 ^ 32
  short = subst (λ n. n < 2 ^ 32) (sym long) matches.short

  pub near_placed : IsPlacement (length context) (near false)
  near_placed = let s = short in (far_is_placement false (length context) (omega arith)).0

  pub wide_placed : IsPlacement (length context) (wide false)
  wide_placed = let s = short in (far_is_placement false (length context) (omega arith)).1

  -- no instruction of the new program puts a pointer into the frame elsewhere
  abbrev pub is_isolated : Bool
  is_isolated = list_all (λ i. not (hands_frame i)) js

  -- ---- one instruction of either program

  holds_at_insn : (test : Insn → Bool) (is : List Insn) → list_all test is ≡ true → (slot : ℕ) (i : Insn) → insn_at is slot ≡ Some i → test i ≡ true
  holds_at_insn test [] h slot i e = absurd (none-some _ e)
  holds_at_insn test (LoadImm64 dst value ∷ is) h zero i e = let p = and_parts (test (LoadImm64 dst value)) (list_all test is) h in subst (λ i. test i ≡ true) (same_Some _ _ e) p.0
  holds_at_insn test (LoadImm64 dst value ∷ is) h (suc zero) i e = absurd (none-some _ e)
  holds_at_insn test (LoadImm64 dst value ∷ is) h (suc (suc slot)) i e = let p = and_parts (test (LoadImm64 dst value)) (list_all test is) h in holds_at_insn test is p.1 slot i e
  holds_at_insn test (j ∷ is) h zero i e = let p = and_parts (test j) (list_all test is) h in subst (λ i. test i ≡ true) (same_Some _ _ e) p.0
  holds_at_insn test (j ∷ is) h (suc slot) i e = let p = and_parts (test j) (list_all test is) h in holds_at_insn test is p.1 slot i e

  not_true : (b : Bool) → not b ≡ true → b ≡ false
  not_true true e = absurd (false≢true e)
  not_true false e = refl

  inner_is : (m : Insn) (g h : FlatState) → flat_does order m g ≡ Some h → is_inner m ≡ true
  unfolding flat_does
  inner_is (CallLocal off) g h e = absurd (none-some _ e)
  inner_is Exit g h e = absurd (none-some _ e)
  inner_is m g h e = refl

  -- the new program still has no such pointer
  pub still_alone : (s t : State) (m : Insn) (g h : FlatState) → insn_at js s.top.slot ≡ Some m → flat_does order m g ≡ Some h → does order m s ≡ Some t → (is_isolated ≡ true → AreAlone s) → is_isolated ≡ true → AreAlone t
  still_alone s t m g h there e d alone i = does_alone order m s t (inner_is m g h e) (not_true (hands_frame m) (holds_at_insn (λ i. not (hands_frame i)) js i s.top.slot m there)) d (alone i)

  pub near_step : (f g : FlatState) (i : Insn) → insn_at is f.slot ≡ Some i → zero_does (near bounds.padded) order i f ≡ Some g → zero_step (near bounds.padded) old f ≡ Some g
  unfolding zero_step
  near_step f g i there e = ap (option_and_then (λ i. zero_does (near bounds.padded) order i f)) there ∙ e

  pub wide_step : (f g : FlatState) (i : Insn) → insn_at is f.slot ≡ Some i → zero_does (wide bounds.padded) order i f ≡ Some g → zero_step (wide bounds.padded) old f ≡ Some g
  unfolding zero_step
  wide_step f g i there e = ap (option_and_then (λ i. zero_does (wide bounds.padded) order i f)) there ∙ e

  pub near_does : (f g : FlatState) (i : Insn) → insn_at is f.slot ≡ Some i → zero_step (near bounds.padded) old f ≡ Some g → zero_does (near bounds.padded) order i f ≡ Some g
  unfolding zero_step
  near_does f g i there e = ap (option_and_then (λ i. zero_does (near bounds.padded) order i f)) (sym there) ∙ e

-- in a call that so many frames wait for
module _ (given : Setting) (deep : ℕ) where
  open given use {order, is, js, notes, bounds, old_valid, new_valid, matches, own, own_is, context, bytes, long, never, v, k, l, near_ends, wide_ends}

  abbrev pub near_own : ℕ
  near_own = frame_start (near false) deep

  abbrev pub wide_own : ℕ
  wide_own = frame_start (wide false) deep

  abbrev pub near_packet : Packet
  near_packet = packet_of given (starts_below (near false) deep)

  abbrev pub wide_packet : Packet
  wide_packet = packet_of given (starts_below (wide false) deep)

  -- the old program's states after as many steps at both placements
  pub record OldAt (j : ℕ) (fn fw : FlatState) : Type 0 where
    pub near_run : zero_after (near bounds.padded) (old given) j (zero_start (near bounds.padded) own) ≡ Some fn
    pub wide_run : zero_after (wide bounds.padded) (old given) j (zero_start (wide bounds.padded) own) ≡ Some fw
    pub near_before : j ≤ k
    pub wide_before : j ≤ l
    pub near_state : IsZeroState fn
    pub wide_state : IsZeroState fw
    pub shallow : deep < max_frames
    pub near_deep : length fn.returns ≡ deep
    pub wide_deep : length fw.returns ≡ deep
    pub slots_same : fw.slot ≡ fn.slot

  -- how many turns the call has made before a state, by the slots of instructions
  abbrev pub made_before : ℕ → ℕ → ℕ
  made_before zero head = 0
  made_before (suc j) head = turns_in_call (near bounds.padded) (old given) (zero_start (near bounds.padded) own) head deep j

  -- the new program's state, and how it lies in flat states at both
  pub record NewAt (known : Known) (j n : ℕ) (s : State) (fn fw gn gw : FlatState) : Type 0 where
    pub run : Steps (new given) n (start context) s
    pub near_level : length gn.returns ≡ deep
    pub wide_level : length gw.returns ≡ deep
    pub near_at : AtOnce order near_own near_packet known fn gn
    pub wide_at : AtOnce order wide_own wide_packet known fw gw
    pub near_fits : Fits order (near false) s gn
    pub wide_fits : Fits order (wide false) s gw
    pub counted : AllCount known.turns (made_before j) (value_in order near_own near_packet gn) known.counters
    pub unlike : (n : ℕ) → known.barred ≡ Some n → flat_register gn R0 ≡ n → ⊥
    pub isolated : is_isolated given ≡ true → AreAlone s

  -- the same, behind a change
  pub record Arriving (known : Known) (change : Change) (step : Option ℕ) (j n : ℕ) (s : State) (fn fw gn gw : FlatState) : Type 0 where
    pub run : Steps (new given) n (start context) s
    pub near_level : length gn.returns ≡ deep
    pub wide_level : length gw.returns ≡ deep
    pub near_behind : Behind order near_own near_packet known change fn gn
    pub wide_behind : Behind order wide_own wide_packet known change fw gw
    pub near_fits : Fits order (near false) s gn
    pub wide_fits : Fits order (wide false) s gw
    pub counts : (want : Option TurnsLeft) → counts_behind known change step want ≡ true → Counts bounds.turns (made_before j) (value_in order near_own near_packet gn) want
    pub unlike : (n : ℕ) → is_spared change (Register R0) ≡ true → known.barred ≡ Some n → flat_register gn R0 ≡ n → ⊥
    pub isolated : is_isolated given ≡ true → AreAlone s

  -- ---- one instruction of the new program

  pub record NewNext (n : ℕ) (hn hw : FlatState) (t : State) : Type 0 where
    pub run : Steps (new given) (suc n) (start context) t
    pub near_level : length hn.returns ≡ deep
    pub wide_level : length hw.returns ≡ deep
    pub near_fits : Fits order (near false) t hn
    pub wide_fits : Fits order (wide false) t hw
    pub isolated : is_isolated given ≡ true → AreAlone t

  pub new_next : (known : Known) (j n : ℕ) (s : State) (fn fw gn gw hn hw : FlatState) (m : Insn) → NewAt known j n s fn fw gn gw → insn_at js s.top.slot ≡ Some m → flat_does order m gn ≡ Some hn → flat_does order m gw ≡ Some hw → hn.returns ≡ gn.returns → hw.returns ≡ gw.returns
      → (t : State) × Step (new given) s t × NewNext n hn hw t
  new_next known j n s fn fw gn gw hn hw m at there en ew same same' =
      let x = steps_on order js new_valid context bytes (short given) never n s m at.run there (not_exit order m gn hn en) in (
        x.0,
        x.1,
        record {
          run = (s, at.run, x.1);
          near_level = ap length same ∙ at.near_level;
          wide_level = ap length same' ∙ at.wide_level;
          near_fits = fits_on order js new_valid context bytes (short given) never (near false) n s x.0 m gn hn (near_placed given) at.run at.near_fits there x.1 en;
          wide_fits = fits_on order js new_valid context bytes (short given) never (wide false) n s x.0 m gw hw (wide_placed given) at.run at.wide_fits there x.1 ew;
          isolated = still_alone given s x.0 m gn hn there en (does_there order js new_valid context bytes (short given) never s x.0 m there x.1) at.isolated;
        },
      )

  -- ---- accesses by other registers than r10

  -- where the new program has no pointer into the frame but r10, they go to the context
  isolated_leaves : (place : Placement) (known : Known) (j n m : ℕ) (s : State) (fn fw gn gw f g : FlatState) (i moved : Insn) → m < max_frames → IsPlacement (length context) place → Fits order place s g → NewAt known j n s fn fw gn gw → insn_at js s.top.slot ≡ Some moved → (moved ≡ Exit → ⊥) → is_isolated given ≡ true → Leaves (frame_start place m) frame_bytes i moved f g
  isolated_leaves place known j n m s fn fw gn gw f g i moved live placed fits at there other e a b k ea eb na nb same lt lt' among =
      let x = steps_on order js new_valid context bytes (short given) never n s moved at.run there other in
      let d = does_there order js new_valid context bytes (short given) never s x.0 moved there x.1 in
      let o = goes order moved b s x.0 d eb in
      let c = goes_to_context s (byte_count b.size) b.offset b.base o.base o.location (at.isolated e) nb o.base_is o.location_is in
      let placed' = new_placed order js new_valid context bytes (short given) never place n s at.run placed in
      let is = new_state order js new_valid context bytes (short given) never n s at.run in
      let fit = place_fits place s (byte_count b.size) b.offset o.base (flat_register g b.base) o.location (size_some b.size) placed' is.few_frames (stands_in fits b.base o.base o.base_is) o.location_is in
      apart place (byte_count b.size) c.0 k s o.location placed' c.1 lt' fit.good (subst (λ z. IsAmong (frame_start place m) frame_bytes ((z + k) % addresses)) (sym same ∙ fit.address_is) among)
    where
      apart : (place : Placement) (size c k : ℕ) (s : State) (l : Location) → IsPlacement (length s.context) place → l ≡ InContext c → k < size → IsGood s size l → IsAmong (frame_start place m) frame_bytes ((place_address place l + k) % addresses) → ⊥
      apart place size c k s (InFrame f first) placed el lt good among = different c f first el
        where
          is_context : Location → Bool
          is_context (InContext i) = true
          is_context (InFrame f first) = false

          different : (c f first : ℕ) → InFrame f first ≡ InContext c → ⊥
          different c f first e = false≢true (ap is_context e)
      apart place size c k s (InContext d) placed el lt good among =
          let inside = placed.context_inside in
          let small : (place.context + d + k) % addresses ≡ place.context + d + k = omega arith in
          placed.context_apart m live (place.context + d + k) (omega arith, omega arith) (subst (λ z. IsAmong (frame_start place m) frame_bytes z) small among)

  abbrev pub left : ℕ
  left = left_alone (new given) bounds.untouched

  -- they leave as many of the lowest bytes of each live frame alone
  near_left : (known : Known) (j n m : ℕ) (s : State) (fn fw gn gw : FlatState) (i moved : Insn) → m ≤ deep → OldAt j fn fw → NewAt known j n s fn fw gn gw → insn_at is fn.slot ≡ Some i → insn_at js s.top.slot ≡ Some moved → (moved ≡ Exit → ⊥) → Leaves (frame_start (near false) m) left i moved fn gn
  unfolding left_alone
  near_left known j n m s fn fw gn gw i moved live o at here there other =
      cond_both (is_isolated given) frame_bytes bounds.untouched (λ left. Leaves (frame_start (near false) m) left i moved fn gn)
      (λ e. let few = o.shallow in isolated_leaves (near false) known j n m s fn fw gn gw fn gn i moved (omega arith) (near_placed given) at.near_fits at there other e)
      (λ e a b k ea eb na nb same lt lt' among. let count = o.near_deep in near_ends.leaves j fn o.near_before o.near_run i a k m here ea (λ ten. false≢true (sym na ∙ eq-eqb (register_number a.base) 10 ten)) lt (omega arith) among)

  wide_left : (known : Known) (j n m : ℕ) (s : State) (fn fw gn gw : FlatState) (i moved : Insn) → m ≤ deep → OldAt j fn fw → NewAt known j n s fn fw gn gw → insn_at is fw.slot ≡ Some i → insn_at js s.top.slot ≡ Some moved → (moved ≡ Exit → ⊥) → Leaves (frame_start (wide false) m) left i moved fw gw
  unfolding left_alone
  wide_left known j n m s fn fw gn gw i moved live o at here there other =
      cond_both (is_isolated given) frame_bytes bounds.untouched (λ left. Leaves (frame_start (wide false) m) left i moved fw gw)
      (λ e. let few = o.shallow in isolated_leaves (wide false) known j n m s fn fw gn gw fw gw i moved (omega arith) (wide_placed given) at.wide_fits at there other e)
      (λ e a b k ea eb na nb same lt lt' among. let count = o.wide_deep in wide_ends.leaves j fw o.wide_before o.wide_run i a k m here ea (λ ten. false≢true (sym na ∙ eq-eqb (register_number a.base) 10 ten)) lt (omega arith) among)

  -- ---- what the old program comes to

  -- an access of both to one address is by r10, and then near the own frame; or it leaves the lowest bytes of frames that wait
  leaves_waiting : (place : Placement) (gap m j : ℕ) (i moved : Insn) (a b : Access) (f g : FlatState) → IsLaid place gap → m < deep → deep < max_frames → IsEnd (frame_start place deep) f.registers → IsEnd (frame_start place deep) g.registers → FitsSigned w16 a.offset → FitsSigned w16 b.offset → Leaves (frame_start place m) left i moved f g
      → access_of i ≡ Some a → access_of moved ≡ Some b → address g b.base b.offset ≡ address f a.base a.offset → j < byte_count a.size → j < byte_count b.size → IsAmong (frame_start place m) left ((address f a.base a.offset + j) % addresses) → (address f a.base a.offset + j) % addresses < frame_start place m + frame_bytes → ⊥
  leaves_waiting place gap m j i moved a b f g laid less shallow end new_end close new_close leaves ea eb same lt lt' among high = by_old (is_frame_pointer a.base) refl
    where
      room : IsRoomy (frame_start place deep)
      room = roomy_at place gap deep laid shallow

      below : frame_start place m + 2 ^ 32 ≤ frame_start place deep
      below = lies_above place gap m deep laid less shallow

      by_new : is_frame_pointer a.base ≡ false → (c : Bool) → is_frame_pointer b.base ≡ c → ⊥
      by_new na false nb = leaves a b j ea eb na nb same lt lt' among
      by_new na true eb' =
          let p = pointer_near (frame_start place deep) j g b.base b.offset room new_end eb' new_close (size_below b.size j lt') in
          let from : frame_start place deep ≤ (address f a.base a.offset + j) % addresses + 2 ^ 21 = subst (λ z. frame_start place deep ≤ (z + j) % addresses + 2 ^ 21) same p.0 in
          let above = below in
          omega arith

      by_old : (c : Bool) → is_frame_pointer a.base ≡ c → ⊥
      by_old false na = by_new na (is_frame_pointer b.base) refl
      by_old true ea' =
          let p = pointer_near (frame_start place deep) j f a.base a.offset room end ea' close (size_below a.size j lt) in
          let from = p.0 in
          let above = below in
          omega arith

  seen_there : (place : Placement) (x : ℕ) → IsInMemory place (length own) deep x → ((m : ℕ) → m < deep → IsAmong (frame_start place m) left x → x < frame_start place m + frame_bytes → ⊥) → IsSeen (frame_start place deep) (record { first = place.context; length = length own; waiting = starts_below place deep; left = left }) x
  seen_there place x (inl among) leaves = inl among
  seen_there place x (inr frames) leaves = by_frame (cases_eq frames.0 deep)
    where
      low : frame_start place frames.0 ≤ x
      low = frames.2.0

      high : x < frame_start place frames.0 + frame_bytes
      high = frames.2.1

      live : frames.0 ≤ deep
      live = frames.1

      by_waiting : frames.0 < deep → (x < frame_start place frames.0 + left) ⊎ (frame_start place frames.0 + left ≤ x) → IsSeen (frame_start place deep) (record { first = place.context; length = length own; waiting = starts_below place deep; left = left }) x
      by_waiting less (inl lowest) = absurd (leaves frames.0 less (low, lowest) high)
      by_waiting less (inr above) = inr (inr (waiting_there place left frames.0 deep x less above high))

      by_frame : (frames.0 ≡ deep) ⊎ (frames.0 ≢ deep) → IsSeen (frame_start place deep) (record { first = place.context; length = length own; waiting = starts_below place deep; left = left }) x
      by_frame (inl same) = inr (inl (subst (λ m. IsAmong (frame_start place m) frame_bytes x) same frames.2))
      by_frame (inr differ) = by_waiting (omega arith) (cases_lt x (frame_start place frames.0 + left))

  stays_seen : (place : Placement) (f : FlatState) (i : Insn) (a : Access) (j : ℕ) → StaysInside place (length own) (old given) f → length f.returns ≡ deep → insn_at is f.slot ≡ Some i → access_of i ≡ Some a → j < byte_count a.size → IsInMemory place (length own) deep ((address f a.base a.offset + j) % addresses)
  stays_seen place f i a j stays count here ea lt = subst (λ n. IsInMemory place (length own) n ((address f a.base a.offset + j) % addresses)) count (elim (reads_or_writes i a ea) [
    | inl reads ↦ stays.reads i a j here ea reads lt
    | inr writes ↦ inr (stays.writes i a j here ea writes lt)
  ])

  pub near_leaves : (known : Known) (j n : ℕ) (s : State) (fn fw gn gw : FlatState) (i m : Insn) → known.left ≡ left → OldAt j fn fw → NewAt known j n s fn fw gn gw → insn_at is fn.slot ≡ Some i → insn_at js s.top.slot ≡ Some m → (m ≡ Exit → ⊥) → Goes near_own near_packet known.left i m fn gn
  near_leaves known j n s fn fw gn gw i m left_is o at here there other =
      record {
        leaves = subst (λ left. Leaves near_own left i m fn gn) (sym left_is) (near_left known j n deep s fn fw gn gw i m (omega arith) o at here there other);
        seen = λ a b x ea eb same lt lt'. seen_there (near bounds.padded) ((address fn a.base a.offset + x) % addresses) (stays_seen (near bounds.padded) fn i a x (near_ends.stays j fn o.near_before o.near_run) o.near_deep here ea lt)
            (λ w less among high. leaves_waiting (near false) near_gap w x i m a b fn gn (near_laid false) less o.shallow at.near_at.pointers.0 at.near_at.pointers.1 (access_near i a (encoding_at is old_valid.encoding fn.slot i here) ea) (access_near m b (encoding_at js new_valid.encoding s.top.slot m there) eb)
            (near_left known j n w s fn fw gn gw i m (omega arith) o at here there other) ea eb same lt lt' among high);
      }

  pub wide_leaves : (known : Known) (j n : ℕ) (s : State) (fn fw gn gw : FlatState) (i m : Insn) → known.left ≡ left → OldAt j fn fw → NewAt known j n s fn fw gn gw → insn_at is fw.slot ≡ Some i → insn_at js s.top.slot ≡ Some m → (m ≡ Exit → ⊥) → Goes wide_own wide_packet known.left i m fw gw
  wide_leaves known j n s fn fw gn gw i m left_is o at here there other =
      record {
        leaves = subst (λ left. Leaves wide_own left i m fw gw) (sym left_is) (wide_left known j n deep s fn fw gn gw i m (omega arith) o at here there other);
        seen = λ a b x ea eb same lt lt'. seen_there (wide bounds.padded) ((address fw a.base a.offset + x) % addresses) (stays_seen (wide bounds.padded) fw i a x (wide_ends.stays j fw o.wide_before o.wide_run) o.wide_deep here ea lt)
            (λ w less among high. leaves_waiting (wide false) wide_gap w x i m a b fw gw (wide_laid false) less o.shallow at.wide_at.pointers.0 at.wide_at.pointers.1 (access_near i a (encoding_at is old_valid.encoding fw.slot i here) ea) (access_near m b (encoding_at js new_valid.encoding s.top.slot m there) eb)
            (wide_left known j n w s fn fw gn gw i m (omega arith) o at here there other) ea eb same lt lt' among high);
      }

module _ (given : Setting) (deep : ℕ) where
  open given use {order, is, js, notes, bounds, old_valid, new_valid, matches, own, own_is, context, bytes, long, never, v, k, l, near_ends, wide_ends}

  -- ---- one instruction of the old program

  -- in as many frames, or one more or less
  pub old_to : (deeper j : ℕ) (fn fw hn hw : FlatState) (i : Insn) → OldAt given deep j fn fw → insn_at is fn.slot ≡ Some i → zero_does (near bounds.padded) order i fn ≡ Some hn → zero_does (wide bounds.padded) order i fw ≡ Some hw → suc j ≤ k → suc j ≤ l
      → deeper < max_frames → length hn.returns ≡ deeper → length hw.returns ≡ deeper → hw.slot ≡ hn.slot → OldAt given deeper (suc j) hn hw
  unfolding zero_after
  old_to deeper j fn fw hn hw i o there en ew near_goes wide_goes shallow near_deep wide_deep slots =
      let there' : insn_at is fw.slot ≡ Some i = ap (insn_at is) o.slots_same ∙ there in
      let zn = near_step given fn hn i there en in
      let zw = wide_step given fw hw i there' ew in
      record {
        near_run = ap (option_and_then (zero_step (near bounds.padded) (old given))) o.near_run ∙ zn;
        wide_run = ap (option_and_then (zero_step (wide bounds.padded) (old given))) o.wide_run ∙ zw;
        near_before = near_goes;
        wide_before = wide_goes;
        near_state = (zero_step_is_step (near bounds.padded) (old given) fn hn old_valid o.near_state zn).1;
        wide_state = (zero_step_is_step (wide bounds.padded) (old given) fw hw old_valid o.wide_state zw).1;
        shallow = shallow;
        near_deep = near_deep;
        wide_deep = wide_deep;
        slots_same = slots;
      }

  pub old_next : (j : ℕ) (fn fw hn hw : FlatState) (i : Insn) → OldAt given deep j fn fw → insn_at is fn.slot ≡ Some i → zero_does (near bounds.padded) order i fn ≡ Some hn → zero_does (wide bounds.padded) order i fw ≡ Some hw → (i ≡ Exit → ⊥)
      → hn.returns ≡ fn.returns → hw.returns ≡ fw.returns → hw.slot ≡ hn.slot → OldAt given deep (suc j) hn hw
  old_next j fn fw hn hw i o there en ew other near_same wide_same slots =
      let there' : insn_at is fw.slot ≡ Some i = ap (insn_at is) o.slots_same ∙ there in
      let g = goes_on (near bounds.padded) (old given) old_valid own (runs given) v k near_ends j fn i o.near_run o.near_before there other in
      let h = goes_on (wide bounds.padded) (old given) old_valid own (runs given) v l wide_ends j fw i o.wide_run o.wide_before there' other in
      old_to deep j fn fw hn hw i o there en ew g.3 h.3 o.shallow (ap length near_same ∙ o.near_deep) (ap length wide_same ∙ o.wide_deep) slots
