-- Calls and the ends of functions: the new program calls and returns with the old one.
use Rattle.std.proofs.Common.{◌≡◌, ℕ, zero, suc, ◌+◌, ◌*◌, ◌%◌, ◌^◌, ◌<◌, ◌≤◌, ◌⊎◌, inl, inr, refl, sym, ap, ◌∙◌, subst, arith, Bool, true, false, List, [], ◌∷◌, map, length, Option, Some, None, cond}
use Rattle.std.specs.Prelude.{ℤ, pos, ◌+ℤ◌, not, ◌==◌, ltb, leb, ◌&&◌, option_map}
use Rattle.std.specs.List.{list_all}
use Rattle.std.specs.Option.{option_map_or}
use Rattle.std.proofs.lemmas.Bool.{and_parts, or_cases, cond_both, cond-true, ltb-true, lt-ltb, leb-true, eq-eqb, false≢true}
use Rattle.std.proofs.lemmas.List.{nil_from_length}
use Rattle.std.proofs.lemmas.Option.{none-some}
use Rattle.bpf_insn.specs.Limits.{frame_bytes, max_frames}
use Rattle.bpf_insn.specs.Instruction.{insn_at, target}
use Rattle.bpf_insn.specs.declared.order.Order.{Order}
use Rattle.bpf_insn.specs.declared.instruction.Reg.TheVariants.{R0}
use Rattle.bpf_insn.specs.declared.instruction.Insn.{Insn}
use Rattle.bpf_insn.specs.declared.instruction.Insn.TheVariants.{CallLocal, Exit}
use Rattle.bpf_semantics.specs.State.{State}
use Rattle.bpf_semantics.specs.Step.{Step, Finish}
use Rattle.bpf_semantics.specs.Flat.{Placement, Return, FlatState, addresses, frame_start, flat_register}
use Rattle.bpf_semantics.specs.Placement.{Fits}
use Rattle.bpf_semantics.proofs.FlatInsn.{number_stands}
use Rattle.bpf_semantics.proofs.StateLemmas.{cond_option}
use Rattle.bpf_kept.specs.Far.{near_gap, wide_gap, near, wide}
use Rattle.bpf_kept.specs.Zero.{zero_start, zero_entered, zero_left, zero_does, zero_step, zero_after, cleared}
use Rattle.bpf_kept.specs.Meaning.{EndsAt, most_for_one}
use Rattle.bpf_kept.specs.declared.notes.Holder.{Holder}
use Rattle.bpf_kept.specs.declared.notes.Holder.TheVariants.{Register}
use Rattle.bpf_kept.specs.declared.notes.TurnsLeft.{TurnsLeft}
use Rattle.bpf_kept.specs.declared.notes.Note.{Note}
use Rattle.bpf_kept.specs.declared.notes.Change.TheVariants.{Kept}
use Rattle.bpf_insn.specs.Arithmetic.{modulo}
use Rattle.bpf_kept.specs.declared.notes.Term.{Term}
use Rattle.bpf_kept.specs.Terms.{Facts, Values, Differs, Holds, AllHold, value_in}
use Rattle.bpf_kept.specs.Rules.{Known, is_same, pinned}
use Rattle.bpf_kept.specs.Behind.{holds_behind}
use Rattle.bpf_kept.specs.Calls.{is_result, is_unlike, is_another, is_other, spares, waits, counter_waits, known_entered, known_returned, apart_waits}
use Rattle.bpf_kept.specs.Counters.{Counts, AllCount, is_turn_of, counts_behind}
use Rattle.bpf_kept.specs.Matching.{note_at, most_extras, known_at, suits, arrives, returns, enters, calls_to, calls, StandsForExit}
use Rattle.bpf_kept.proofs.HoldsLaw.{all_of, pinned_differs, plain_shift}
use Rattle.bpf_state.specs.State.{AbstractState}
use Rattle.bpf_kept.specs.States.{never_holds}
use Rattle.bpf_kept.proofs.StatesLaw.{never_is}
use Rattle.bpf_kept.proofs.StoreLaw.{register_same}
use Rattle.bpf_kept.proofs.ExtraLaw.{kept_hold}
use Rattle.bpf_kept.proofs.CountLaw.{Advances, kept_counts}
use Rattle.bpf_kept.proofs.EdgeLaw.{equal_numbers}
use Rattle.bpf_kept.proofs.AheadLaw.{goes_on, goes_back, ends_here}
use Rattle.bpf_kept.proofs.Isolated.{call_alone, exit_alone}
use Rattle.bpf_kept.proofs.LevelLaw.{IsLaid, near_laid, wide_laid, roomy_at, high_at, lies_above, waiting_below}
use Rattle.bpf_kept.proofs.CallLaw.{IsAround, entered_state, returned_state, entered_behind, returned_behind, result_holds, waited_same}
use Rattle.bpf_kept.proofs.Simulation.{more, in_time, no_returns, no_waiting, does_there, steps_on, ends_on, returns_on, fits_zero, new_state}
use Rattle.bpf_kept.proofs.Setting.{Setting, runs}
use Rattle.bpf_kept.proofs.Beside.{old, new, near_placed, wide_placed, near_own, wide_own, near_packet, wide_packet, near_does, OldAt, Arriving, old_to, made_before, left}
use Rattle.bpf_kept.proofs.Waiting.{promise_of, itself_promises, Caller, Waits, WaitsAt, StayBelow, return_of, waits_on, waiting_made}
use Rattle.bpf_kept.proofs.Extras.{turn_advances}
use Rattle.bpf_kept.proofs.Arrivals.{Ready, arrived}
use Rattle.bpf_kept.proofs.Follow.{At, few_at, known}

-- in front of an old instruction, in some call
pub record Somewhere (given : Setting) (j : ℕ) : Type 0 where
  pub deep : ℕ
  pub ready : Ready given deep j

-- ---- the flat machine's calls and returns

call_does : (place : Placement) (order : Order) (off : ℤ) (f : FlatState) (deep to : ℕ) → length f.returns ≡ deep → suc deep < max_frames → target f.slot off ≡ Some to → zero_does place order (CallLocal off) f ≡ Some (entered_state (frame_start place (suc deep)) f to (return_of f ∷ f.returns))
call_does place order off f deep to count shallow there =
    cond-true (ltb (suc (length f.returns)) max_frames) (option_map (zero_entered place f) (target f.slot off)) None (lt-ltb (suc (length f.returns)) max_frames (omega arith)) ∙ ap (option_map (zero_entered place f)) there
    ∙ ap (λ n. Some (entered_state (frame_start place (suc n)) f to (return_of f ∷ f.returns))) count

-- where it calls, there is room
call_room : (place : Placement) (order : Order) (off : ℤ) (f g : FlatState) → zero_does place order (CallLocal off) f ≡ Some g → suc (length f.returns) < max_frames
call_room place order off f g e = ltb-true (suc (length f.returns)) max_frames (cond_option (ltb (suc (length f.returns)) max_frames) (option_map (zero_entered place f) (target f.slot off)) g e).0

exit_does : (place : Placement) (order : Order) (f c : FlatState) (r : Return) (rest : List Return) → f.returns ≡ r ∷ rest → r ≡ return_of c → zero_does place order Exit f ≡ Some (returned_state c (flat_register f R0) (c.slot + 1) f.memory rest)
exit_does place order f c r rest are is = ap (λ rs. zero_left rs f) are ∙ ap (λ r. zero_left (r ∷ rest) f) is

-- a new frame is none of those below
cleared_below : (place : Placement) (gap deep k a : ℕ) (m : ℕ → ℕ) → IsLaid place gap → k ≤ deep → suc deep < max_frames → a < frame_start place k + 512 → cleared (frame_start place (suc deep)) m a ≡ m a
cleared_below place gap deep k a m laid le shallow lt =
    let above = lies_above place gap k (suc deep) laid (omega arith) shallow in
    cond_both (leb (frame_start place (suc deep)) a && ltb a (frame_start place (suc deep) + frame_bytes)) 0 (m a) (λ z. z ≡ m a)
    (λ e. let c = and_parts (leb (frame_start place (suc deep)) a) (ltb a (frame_start place (suc deep) + frame_bytes)) e in let from = leb-true (frame_start place (suc deep)) a c.0 in absurd (omega arith)) (λ e. refl)

-- a number that a term doesn't make 0 isn't one that it makes 0
other_number : (own : ℕ) (t : Term) (x z : ℕ) → (t.frames == 0) ≡ true → not ((z + t.moved) % addresses == 0) ≡ true → Differs own t x 0 → x ≡ z → ⊥
other_number own t x z none other d same =
    let moved : 0 ≡ modulo (pos x +ℤ pos t.moved) addresses = d ∙ ap (λ s. modulo (pos x +ℤ s) addresses) (plain_shift own t none) in
    let is : (z + t.moved) % addresses ≡ 0 = ap (λ n. (n + t.moved) % addresses) (sym same) ∙ sym moved in
    false≢true (sym (ap not (eq-eqb ((z + t.moved) % addresses) 0 is)) ∙ other)

-- counters behind a call
counters_wait : (turns lowest : ℕ) (made : ℕ → ℕ) (v w : Values) (counters : List (Option TurnsLeft)) → ((h : Holder) → waits lowest h ≡ true → w (Some h) ≡ v (Some h)) → AllCount turns made v counters → AllCount turns made w (map (counter_waits lowest) counters)
counters_wait turns lowest made v w [] same all = tt
counters_wait turns lowest made v w (None ∷ counters) same all = (tt, counters_wait turns lowest made v w counters same all.1)
counters_wait turns lowest made v w (Some c ∷ counters) same all =
    let rest = counters_wait turns lowest made v w counters same all.1 in
    (cond_both (waits lowest c.of) (Some c) None (Counts turns made w) (λ e. subst (λ x. turns ≤ x + (c.taken + made c.head)) (sym (same c.of e)) all.0) (λ e. tt), rest)

-- ---- calls

module _ (given : Setting) (deep : ℕ) where
  open given use {order, is, js, notes, bounds, states, old_valid, new_valid, matches, own, own_is, context, bytes, long, never, v, k, l, near_ends, wide_ends}

  short : length context < 2 ^ 32
  short = subst (λ n. n < 2 ^ 32) (sym long) matches.short

  near_around : suc deep < max_frames → IsAround (near_own given deep) (near_own given (suc deep)) (near_packet given deep)
  near_around shallow =
      let above = lies_above (near false) near_gap deep (suc deep) (near_laid false) (omega arith) shallow in
      record {
        given = omega arith;
        above = omega arith;
        lower = λ a w. waiting_below (near false) near_gap (left given deep) deep a (near_laid false) (omega arith) w;
        room = roomy_at (near false) near_gap (suc deep) (near_laid false) shallow;
        high = high_at (near false) near_gap (suc deep) (near_laid false) shallow;
      }

  wide_around : suc deep < max_frames → IsAround (wide_own given deep) (wide_own given (suc deep)) (wide_packet given deep)
  wide_around shallow =
      let above = lies_above (wide false) wide_gap deep (suc deep) (wide_laid false) (omega arith) shallow in
      record {
        given = omega arith;
        above = omega arith;
        lower = λ a w. waiting_below (wide false) wide_gap (left given deep) deep a (wide_laid false) (omega arith) w;
        room = roomy_at (wide false) wide_gap (suc deep) (wide_laid false) shallow;
        high = high_at (wide false) wide_gap (suc deep) (wide_laid false) shallow;
      }

  -- both call
  record Called (j : ℕ) (q : Ready given deep j) (off new_off : ℤ) : Type 0 where
    to : ℕ
    to_is : target q.fn.slot off ≡ Some to
    new_to : ℕ
    new_to_is : target q.state.top.slot new_off ≡ Some new_to
    entry : Note
    entry_is : note_at notes new_to ≡ Some entry
    low : apart_waits (known given deep q) ≡ true
    suited : suits (known_entered (known given deep q) entry.back entry.spare) Kept None to most_extras entry ≡ true
    results : list_all is_result entry.back ≡ true
    behind : arrives notes (known_returned (known given deep q) entry.back entry.spare) Kept (Some q.fn.slot) (q.fn.slot + 1) most_extras (q.state.top.slot + 1) ≡ true

  called : (j : ℕ) (q : Ready given deep j) (off new_off : ℤ) → calls notes (known given deep q) q.fn.slot q.state.top.slot (CallLocal off) (CallLocal new_off) ≡ true → Called j q off new_off
  called j q off new_off e = by_to (target q.fn.slot off) refl parts.1
    where
      parts : (apart_waits (known given deep q) ≡ true) × (option_map_or (λ to. option_map_or (calls_to notes (known given deep q) q.fn.slot q.state.top.slot to) (target q.state.top.slot new_off) false) (target q.fn.slot off) false ≡ true)
      parts = and_parts (apart_waits (known given deep q)) (option_map_or (λ to. option_map_or (calls_to notes (known given deep q) q.fn.slot q.state.top.slot to) (target q.state.top.slot new_off) false) (target q.fn.slot off) false) e

      by_entry : (to new_to : ℕ) → target q.fn.slot off ≡ Some to → target q.state.top.slot new_off ≡ Some new_to → (o : Option Note) → note_at notes new_to ≡ o → option_map_or (enters notes (known given deep q) q.fn.slot q.state.top.slot to) o false ≡ true → Called j q off new_off
      by_entry to new_to et en None eo h = absurd (false≢true h)
      by_entry to new_to et en (Some entry) eo h =
          let back = arrives notes (known_returned (known given deep q) entry.back entry.spare) Kept (Some q.fn.slot) (q.fn.slot + 1) most_extras (q.state.top.slot + 1) in
          let a = and_parts (suits (known_entered (known given deep q) entry.back entry.spare) Kept None to most_extras entry) (list_all is_result entry.back && back) h in
          let b = and_parts (list_all is_result entry.back) back a.1 in
          record { to = to; to_is = et; new_to = new_to; new_to_is = en; entry = entry; entry_is = eo; low = parts.0; suited = a.0; results = b.0; behind = b.1 }

      by_new : (to : ℕ) → target q.fn.slot off ≡ Some to → (o : Option ℕ) → target q.state.top.slot new_off ≡ o → option_map_or (calls_to notes (known given deep q) q.fn.slot q.state.top.slot to) o false ≡ true → Called j q off new_off
      by_new to et None eo h = absurd (false≢true h)
      by_new to et (Some new_to) eo h = by_entry to new_to et eo (note_at notes new_to) refl h

      by_to : (o : Option ℕ) → target q.fn.slot off ≡ o → option_map_or (λ to. option_map_or (calls_to notes (known given deep q) q.fn.slot q.state.top.slot to) (target q.state.top.slot new_off) false) o false ≡ true → Called j q off new_off
      by_to None eo h = absurd (false≢true h)
      by_to (Some to) eo h = by_new to eo (target q.state.top.slot new_off) refl h

  -- no counter is known at an entry
  no_counters : (turns : ℕ) (facts back : Facts) (spare : Option ℕ) (lowest : ℕ) (state : Option AbstractState) (made : ℕ → ℕ) (w : Values) (want : Option TurnsLeft) → counts_behind (record { facts = facts; apart = []; counters = []; turns = turns; left = lowest; back = back; spare = spare; barred = None; state = state }) Kept None want ≡ true → Counts turns made w want
  no_counters turns facts back spare lowest state made w None e = tt
  no_counters turns facts back spare lowest state made w (Some want) e = absurd (false≢true e)

  pub by_call : (j : ℕ) (off new_off : ℤ) (at : At given deep j (CallLocal off) (CallLocal new_off)) → calls notes (known given deep at.ready) at.ready.fn.slot at.ready.state.top.slot (CallLocal off) (CallLocal new_off) ≡ true → Somewhere given (suc j)
  unfolding arrives
  by_call j off new_off at good =
      record {
        deep = suc deep;
        ready =
            (arrived given (suc deep) (known_entered (known given deep q) c.entry.back c.entry.spare) Kept None (suc j) (suc q.n) c.to most_extras c.new_to x.0 hn hw kn kw
            (ap (λ o. option_map_or (suits (known_entered (known given deep q) c.entry.back c.entry.spare) Kept None c.to most_extras) o false) c.entry_is ∙ c.suited) (sym near_fits.slot_is) refl (more j q.n (few_at given deep j i moved at)) (promise_of c.entry) (itself_promises (promise_of c.entry)) waiting o' arriving).0;
      }
    where
      i : Insn
      i = CallLocal off

      moved : Insn
      moved = CallLocal new_off

      q : Ready given deep j
      q = at.ready

      o : OldAt given deep j q.fn q.fw
      o = q.old_at

      c : Called j q off new_off
      c = called j q off new_off good

      no_exit : (z : ℤ) → CallLocal z ≡ Exit → ⊥
      no_exit z e = false≢true (ap is_exit e)
        where
          is_exit : Insn → Bool
          is_exit Exit = true
          is_exit i = false

      here' : insn_at is q.fw.slot ≡ Some i
      here' = ap (insn_at is) o.slots_same ∙ at.here

      near_goes : (g : FlatState) × (zero_step (near bounds.padded) (old given) q.fn ≡ Some g) × (zero_after (near bounds.padded) (old given) (suc j) (zero_start (near bounds.padded) own) ≡ Some g) × (suc j ≤ k)
      near_goes = goes_on (near bounds.padded) (old given) old_valid own (runs given) v k near_ends j q.fn i o.near_run o.near_before at.here (no_exit off)

      shallow : suc deep < max_frames
      shallow = let room = call_room (near bounds.padded) order off q.fn near_goes.0 (near_does given q.fn near_goes.0 i at.here near_goes.1) in let count = o.near_deep in omega arith

      wide_before : suc j ≤ l
      wide_before = (goes_on (wide bounds.padded) (old given) old_valid own (runs given) v l wide_ends j q.fw i o.wide_run o.wide_before here' (no_exit off)).3

      hn : FlatState
      hn = entered_state (near_own given (suc deep)) q.fn c.to (return_of q.fn ∷ q.fn.returns)

      hw : FlatState
      hw = entered_state (wide_own given (suc deep)) q.fw c.to (return_of q.fw ∷ q.fw.returns)

      kn : FlatState
      kn = entered_state (near_own given (suc deep)) q.gn c.new_to (return_of q.gn ∷ q.gn.returns)

      kw : FlatState
      kw = entered_state (wide_own given (suc deep)) q.gw c.new_to (return_of q.gw ∷ q.gw.returns)

      x : (t : State) × Step (new given) q.state t
      x = steps_on order js new_valid context bytes short never q.n q.state moved q.new_at.run at.there (no_exit new_off)

      near_fits : Fits order (near false) x.0 kn
      near_fits = fits_zero order js new_valid context bytes short never (near false) q.n q.state x.0 moved q.gn kn (near_placed given) q.new_at.run q.new_at.near_fits at.there x.1
          (call_does (near false) order new_off q.gn deep c.new_to q.new_at.near_level shallow (ap (λ s. target s new_off) q.new_at.near_fits.slot_is ∙ c.new_to_is))

      wide_fits : Fits order (wide false) x.0 kw
      wide_fits = fits_zero order js new_valid context bytes short never (wide false) q.n q.state x.0 moved q.gw kw (wide_placed given) q.new_at.run q.new_at.wide_fits at.there x.1
          (call_does (wide false) order new_off q.gw deep c.new_to q.new_at.wide_level shallow (ap (λ s. target s new_off) q.new_at.wide_fits.slot_is ∙ c.new_to_is))

      o' : OldAt given (suc deep) (suc j) hn hw
      o' = old_to given deep (suc deep) j q.fn q.fw hn hw i o at.here (call_does (near bounds.padded) order off q.fn deep c.to o.near_deep shallow c.to_is) (call_does (wide bounds.padded) order off q.fw deep c.to o.wide_deep shallow (ap (λ s. target s off) o.slots_same ∙ c.to_is))
          near_goes.3 wide_before shallow (ap suc o.near_deep) (ap suc o.wide_deep) refl

      -- the frames that wait
      near_kept : (m : ℕ → ℕ) → StayBelow (near false) (left given deep) deep m (cleared (near_own given (suc deep)) m)
      near_kept m b less a among lt = cleared_below (near false) near_gap deep b a m (near_laid false) (omega arith) shallow lt

      wide_kept : (m : ℕ → ℕ) → StayBelow (wide false) (left given deep) deep m (cleared (wide_own given (suc deep)) m)
      wide_kept m b less a among lt = cleared_below (wide false) wide_gap deep b a m (wide_laid false) (omega arith) shallow lt

      caller : Caller given deep (suc j) (promise_of c.entry) q.promise (return_of q.fn) (return_of q.fw) (return_of q.gn) (return_of q.gw) hn.memory hw.memory kn.memory kw.memory
      caller =
          record {
            note = q.note;
            state = states q.state.top.slot;
            fn = q.fn;
            fw = q.fw;
            gn = q.gn;
            gw = q.gw;
            promises = q.promises;
            near_at = q.new_at.near_at;
            wide_at = q.new_at.wide_at;
            low = c.low;
            results = c.results;
            leads = subst (λ s. arrives notes (known_returned (known given deep q) c.entry.back c.entry.spare) Kept (Some q.fn.slot) (q.fn.slot + 1) most_extras (s + 1) ≡ true) (sym q.new_at.near_fits.slot_is) c.behind;
            slots_same = o.slots_same;
            new_slots_same = q.new_at.wide_fits.slot_is ∙ sym q.new_at.near_fits.slot_is;
            near_return = refl;
            wide_return = refl;
            new_near_return = refl;
            new_wide_return = refl;
            near_left = λ a among lt. cleared_below (near false) near_gap deep deep a q.fn.memory (near_laid false) (omega arith) shallow lt;
            wide_left = λ a among lt. cleared_below (wide false) wide_gap deep deep a q.fw.memory (wide_laid false) (omega arith) shallow lt;
            new_near_left = λ a among lt. cleared_below (near false) near_gap deep deep a q.gn.memory (near_laid false) (omega arith) shallow lt;
            new_wide_left = λ a among lt. cleared_below (wide false) wide_gap deep deep a q.gw.memory (wide_laid false) (omega arith) shallow lt;
            made = made_before given deep j;
            counted = q.new_at.counted;
            turned = turn_advances given deep j q.fn q.fw o;
          }

      waiting : WaitsAt given (suc deep) (suc j) (promise_of c.entry) hn hw kn kw
      waiting = (
        q.promise,
        caller,
        waits_on given deep deep j (suc j) q.promise q.fn.returns q.fw.returns q.gn.returns q.gw.returns q.fn.memory q.fw.memory q.gn.memory q.gw.memory hn.memory hw.memory kn.memory kw.memory (omega arith)
            (record { old_near = near_kept q.fn.memory; old_wide = wide_kept q.fw.memory; new_near = near_kept q.gn.memory; new_wide = wide_kept q.gw.memory; turns = λ b head less. waiting_made given deep b j q.fn q.fw less o head }) q.waits,
      )

      arriving : Arriving given (suc deep) (known_entered (known given deep q) c.entry.back c.entry.spare) Kept None (suc j) (suc q.n) x.0 hn hw kn kw
      arriving =
          record {
            run = (q.state, q.new_at.run, x.1);
            near_level = ap suc q.new_at.near_level;
            wide_level = ap suc q.new_at.wide_level;
            near_behind = entered_behind order (near_own given deep) (near_own given (suc deep)) (near_packet given deep) (known given deep q) q.fn q.gn q.new_at.near_at (near_around shallow) refl c.low c.entry.back c.entry.spare c.to c.new_to (return_of q.fn ∷ q.fn.returns) (return_of q.gn ∷ q.gn.returns) o'.near_state.flat near_fits.flat;
            wide_behind = entered_behind order (wide_own given deep) (wide_own given (suc deep)) (wide_packet given deep) (known given deep q) q.fw q.gw q.new_at.wide_at (wide_around shallow) refl c.low c.entry.back c.entry.spare c.to c.new_to (return_of q.fw ∷ q.fw.returns) (return_of q.gw ∷ q.gw.returns) o'.wide_state.flat wide_fits.flat;
            near_fits = near_fits;
            wide_fits = wide_fits;
            counts = λ want e. no_counters bounds.turns (known_entered (known given deep q) c.entry.back c.entry.spare).facts c.entry.back c.entry.spare (known given deep q).left (known given deep q).state (made_before given (suc deep) (suc j)) (value_in order (near_own given (suc deep)) (near_packet given (suc deep)) kn) want e;
            unlike = λ z e b. absurd (none-some z b);
            isolated = λ e. call_alone order new_off q.state x.0 (new_state order js new_valid context bytes short never q.n q.state q.new_at.run) (does_there order js new_valid context bytes short never q.state x.0 moved at.there x.1) (q.new_at.isolated e);
          }

-- ---- ends of functions

module _ (given : Setting) where
  open given use {order, is, js, notes, bounds, states, old_valid, new_valid, matches, own, own_is, context, bytes, long, never, v, k, l, near_ends, wide_ends}

  short' : length context < 2 ^ 32
  short' = subst (λ n. n < 2 ^ 32) (sym long) matches.short

  abbrev pub Ended : Type 0
  Ended = EndsAt (new given) context v (StandsForExit (old given) notes) (most_for_one * suc (suc k))

  -- what the notes say of the result holds at both placements
  near_result : (deep j : ℕ) (q : Ready given deep j) → returns (known given deep q) Exit Exit ≡ true → AllHold (near_own given deep) (value_in order (near_own given deep) (near_packet given deep) q.fn) (value_in order (near_own given deep) (near_packet given deep) q.gn) q.promise.back
  near_result deep j q e =
      let at = q.new_at.near_at in
      let old : Values = value_in order (near_own given deep) (near_packet given deep) q.fn in
      let new : Values = value_in order (near_own given deep) (near_packet given deep) q.gn in
      q.promises.holds (near_own given deep) old new at.high refl refl (all_of (holds_behind (known given deep q).facts Kept) (Holds (near_own given deep) old new) q.note.back (and_parts (list_all (holds_behind (known given deep q).facts Kept) q.note.back) (spares (known given deep q) q.note.spare) e).0 (λ want h. kept_hold (near_own given deep) (known given deep q).facts at.high old new want refl refl at.all h))

  wide_result : (deep j : ℕ) (q : Ready given deep j) → returns (known given deep q) Exit Exit ≡ true → AllHold (wide_own given deep) (value_in order (wide_own given deep) (wide_packet given deep) q.fw) (value_in order (wide_own given deep) (wide_packet given deep) q.gw) q.promise.back
  wide_result deep j q e =
      let at = q.new_at.wide_at in
      let old : Values = value_in order (wide_own given deep) (wide_packet given deep) q.fw in
      let new : Values = value_in order (wide_own given deep) (wide_packet given deep) q.gw in
      q.promises.holds (wide_own given deep) old new at.high refl refl (all_of (holds_behind (known given deep q).facts Kept) (Holds (wide_own given deep) old new) q.note.back (and_parts (list_all (holds_behind (known given deep q).facts Kept) q.note.back) (spares (known given deep q) q.note.spare) e).0 (λ want h. kept_hold (wide_own given deep) (known given deep q).facts at.high old new want refl refl at.all h))

  -- in the outermost frame both programs end
  by_end : (j : ℕ) (at : At given 0 j Exit Exit) → returns (known given 0 at.ready) Exit Exit ≡ true → Ended
  by_end j at good =
      let q = at.ready in
      let o = q.old_at in
      let done = ends_here (near bounds.padded) (old given) old_valid own (runs given) v k near_ends j q.fn o.near_run o.near_before at.here (nil_from_length q.fn.returns o.near_deep) in
      let end = ends_on order js new_valid context bytes short' never q.n q.state q.new_at.run at.there (no_waiting (near false) q.state.waiting q.gn.returns q.new_at.near_fits.returns_fit (nil_from_length q.gn.returns q.new_at.near_level)) in
      let result = q.waits.holds (near_own given 0) (value_in order (near_own given 0) (near_packet given 0) q.fn) (value_in order (near_own given 0) (near_packet given 0) q.gn) q.new_at.near_at.high refl refl (near_result 0 j q good) in
      let equal : flat_register q.gn R0 ≡ flat_register q.fn R0 = equal_numbers (near_own given 0) (flat_register q.fn R0) (flat_register q.gn R0) (q.new_at.near_at.flat.numbers 0) result.0 in
      let value : end.0 ≡ v = sym (number_stands q.new_at.near_fits R0 end.0 end.2) ∙ equal ∙ done.1 in
      record {
        steps = q.n;
        state = q.state;
        run = q.new_at.run;
        finish = subst (λ v. Finish (new given) q.state v) value end.1;
        at_exit = record { note = q.note; noted = q.noted; body = at.body; exit = ap (insn_at is) (sym q.old_is) ∙ at.here };
        few = in_time j k q.n (few_at given 0 j Exit Exit at) done.0;
      }

  -- in another one they return
  by_return : (deep j : ℕ) (at : At given (suc deep) j Exit Exit) → returns (known given (suc deep) at.ready) Exit Exit ≡ true → Somewhere given (suc j)
  by_return deep j at good = by_lists q.fn.returns q.fw.returns q.gn.returns q.gw.returns refl refl refl refl q.waits
    where
      q : Ready given (suc deep) j
      q = at.ready

      o : OldAt given (suc deep) j q.fn q.fw
      o = q.old_at

      no_empty : (rs : List Return) → length rs ≡ suc deep → rs ≡ [] → ⊥
      no_empty rs count e = let bad : 0 ≡ suc deep = ap length (sym e) ∙ count in absurd (omega arith)

      here' : insn_at is q.fw.slot ≡ Some Exit
      here' = ap (insn_at is) o.slots_same ∙ at.here

      by_lists : (rns rws qns qws : List Return) → q.fn.returns ≡ rns → q.fw.returns ≡ rws → q.gn.returns ≡ qns → q.gw.returns ≡ qws → Waits given (suc deep) j q.promise rns rws qns qws q.fn.memory q.fw.memory q.gn.memory q.gw.memory → Somewhere given (suc j)
      by_lists [] rws qns qws en ew fn fw w = absurd w
      by_lists (rn ∷ rns) [] qns qws en ew fn fw w = absurd w
      by_lists (rn ∷ rns) (rv ∷ rws) [] qws en ew fn fw w = absurd w
      by_lists (rn ∷ rns) (rv ∷ rws) (qn ∷ qns) [] en ew fn fw w = absurd w
      by_lists (rn ∷ rns) (rv ∷ rws) (qn ∷ qns) (qw ∷ qws) en ew fn fw w =
          record {
            deep = deep;
            ready =
                (arrived given deep known' Kept (Some c.fn.slot) (suc j) (suc q.n) (c.fn.slot + 1) most_extras (c.gn.slot + 1) x.0 hn hw kn kw c.leads (sym near_fits.slot_is) refl (more j q.n (few_at given (suc deep) j Exit Exit at)) w.0 c.promises waiting o' arriving).0;
          }
        where
          c : Caller given deep j q.promise w.0 rn rv qn qw q.fn.memory q.fw.memory q.gn.memory q.gw.memory
          c = w.1

          known' : Known
          known' = known_returned (known_at (new given) bounds c.state c.note) q.promise.back q.promise.spare

          shallow : suc deep < max_frames
          shallow = o.shallow

          hn : FlatState
          hn = returned_state c.fn (flat_register q.fn R0) (c.fn.slot + 1) q.fn.memory rns

          hw : FlatState
          hw = returned_state c.fw (flat_register q.fw R0) (c.fw.slot + 1) q.fw.memory rws

          kn : FlatState
          kn = returned_state c.gn (flat_register q.gn R0) (c.gn.slot + 1) q.gn.memory qns

          kw : FlatState
          kw = returned_state c.gw (flat_register q.gw R0) (c.gw.slot + 1) q.gw.memory qws

          x : (t : State) × Step (new given) q.state t
          x = returns_on order js new_valid context bytes short' never q.n q.state q.new_at.run at.there (λ alone. no_empty q.gn.returns q.new_at.near_level (no_returns (near false) q.state.waiting q.gn.returns q.new_at.near_fits.returns_fit alone))

          near_fits : Fits order (near false) x.0 kn
          near_fits = fits_zero order js new_valid context bytes short' never (near false) q.n q.state x.0 Exit q.gn kn (near_placed given) q.new_at.run q.new_at.near_fits at.there x.1 (exit_does (near false) order q.gn c.gn qn qns fn c.new_near_return)

          wide_fits : Fits order (wide false) x.0 kw
          wide_fits = fits_zero order js new_valid context bytes short' never (wide false) q.n q.state x.0 Exit q.gw kw (wide_placed given) q.new_at.run q.new_at.wide_fits at.there x.1 (exit_does (wide false) order q.gw c.gw qw qws fw c.new_wide_return)

          rest_is : (r : Return) (rs all : List Return) → all ≡ r ∷ rs → length all ≡ suc deep → length rs ≡ deep
          rest_is r rs all e count = let more : suc (length rs) ≡ suc deep = ap length (sym e) ∙ count in omega arith

          o' : OldAt given deep (suc j) hn hw
          o' = old_to given (suc deep) deep j q.fn q.fw hn hw Exit o at.here (exit_does (near bounds.padded) order q.fn c.fn rn rns en c.near_return) (exit_does (wide bounds.padded) order q.fw c.fw rv rws ew c.wide_return)
              (goes_back (near bounds.padded) (old given) old_valid own (runs given) v k near_ends j q.fn o.near_run o.near_before (no_empty q.fn.returns o.near_deep)) (goes_back (wide bounds.padded) (old given) old_valid own (runs given) v l wide_ends j q.fw o.wide_run o.wide_before (no_empty q.fw.returns o.wide_deep))
              (omega arith) (rest_is rn rns q.fn.returns en o.near_deep) (rest_is rv rws q.fw.returns ew o.wide_deep) (ap (λ s. s + 1) c.slots_same)

          waiting : WaitsAt given deep (suc j) w.0 hn hw kn kw
          waiting =
              waits_on given deep deep j (suc j) w.0 rns rws qns qws q.fn.memory q.fw.memory q.gn.memory q.gw.memory q.fn.memory q.fw.memory q.gn.memory q.gw.memory (omega arith)
              (record { old_near = λ b less a among lt. refl; old_wide = λ b less a among lt. refl; new_near = λ b less a among lt. refl; new_wide = λ b less a among lt. refl; turns = λ b head less. waiting_made given (suc deep) b j q.fn q.fw (omega arith) o head }) w.2

          turned : Advances (Some c.fn.slot) c.made (made_before given deep (suc j))
          turned head = subst (λ m. c.made head + cond (is_turn_of (Some c.fn.slot) head) 1 0 ≤ m) (sym (waiting_made given (suc deep) deep j q.fn q.fw (omega arith) o head)) (c.turned head)

          -- the result isn't the spare number
          unlike : (z : ℕ) → q.note.spare ≡ Some z → flat_register q.gn R0 ≡ z → ⊥
          unlike z es same =
              let at = q.new_at.near_at in
              let facts : Facts = (known given (suc deep) q).facts in
              let other = ap (λ o. option_map_or (is_other (known given (suc deep) q)) o true) (sym es)
              ∙ (and_parts (list_all (holds_behind facts Kept) q.note.back) (spares (known given (suc deep) q) q.note.spare) good).1 in
              elim (or_cases (is_another facts z) (never_holds (known given (suc deep) q).state R0 z) other) [
                | inl h ↦ (let p = and_parts (is_same facts R0) (option_map_or (is_unlike z) (pinned facts (Register R0)) false) h in
                    let equal = register_same order (near_own given (suc deep)) (near_packet given (suc deep)) (known given (suc deep) q) q.fn q.gn R0 at p.0 in
                    by_pin (pinned facts (Register R0)) refl (sym equal ∙ same) p.1)
                | inr h ↦ never_is (known given (suc deep) q).state q.gn at.numbers R0 z (subst (λ z. z < addresses) same (at.new_flat.numbers 0)) h same
              ]
            where
              by_pin : (o : Option Term) → pinned (known given (suc deep) q).facts (Register R0) ≡ o → flat_register q.fn R0 ≡ z → option_map_or (is_unlike z) o false ≡ true → ⊥
              by_pin None eo old_same h = false≢true h
              by_pin (Some t) eo old_same h =
                  let at = q.new_at.near_at in
                  let c = and_parts (t.frames == 0) (not ((z + t.moved) % addresses == 0)) h in
                  other_number (near_own given (suc deep)) t (flat_register q.fn R0) z c.0 c.1 (pinned_differs (near_own given (suc deep)) (value_in order (near_own given (suc deep)) (near_packet given (suc deep)) q.fn) (value_in order (near_own given (suc deep)) (near_packet given (suc deep)) q.gn) (known given (suc deep) q).facts (Register R0) t at.all eo) old_same

          near_values : AllHold (near_own given deep) (value_in order (near_own given deep) (near_packet given deep) hn) (value_in order (near_own given deep) (near_packet given deep) kn) q.promise.back
          near_values = result_holds order (near_own given deep) (near_own given (suc deep)) (flat_register q.fn R0) (flat_register q.gn R0) (near_packet given deep) c.fn c.gn q.fn q.gn (c.fn.slot + 1) (c.gn.slot + 1) q.fn.memory q.gn.memory rns qns q.promise.back c.results refl refl (near_result (suc deep) j q good)

          wide_values : AllHold (wide_own given deep) (value_in order (wide_own given deep) (wide_packet given deep) hw) (value_in order (wide_own given deep) (wide_packet given deep) kw) q.promise.back
          wide_values = result_holds order (wide_own given deep) (wide_own given (suc deep)) (flat_register q.fw R0) (flat_register q.gw R0) (wide_packet given deep) c.fw c.gw q.fw q.gw (c.fw.slot + 1) (c.gw.slot + 1) q.fw.memory q.gw.memory rws qws q.promise.back c.results refl refl (wide_result (suc deep) j q good)

          values : Values
          values = value_in order (near_own given deep) (near_packet given deep) kn

          counters : AllCount bounds.turns c.made values (map (counter_waits (left given deep)) c.note.counters)
          counters =
              counters_wait bounds.turns (left given deep) c.made (value_in order (near_own given deep) (near_packet given deep) c.gn) values c.note.counters
              (λ h e. waited_same order (near_own given deep) (near_own given (suc deep)) (near_packet given deep) (known_at (new given) bounds c.state c.note) c.fn c.gn c.near_at (near_around given deep shallow) refl c.low c.gn (flat_register q.gn R0) (c.gn.slot + 1) q.gn.memory qns c.new_near_left (Some h) e) c.counted

          arriving : Arriving given deep known' Kept (Some c.fn.slot) (suc j) (suc q.n) x.0 hn hw kn kw
          arriving =
              record {
                run = (q.state, q.new_at.run, x.1);
                near_level = rest_is qn qns q.gn.returns fn q.new_at.near_level;
                wide_level = rest_is qw qws q.gw.returns fw q.new_at.wide_level;
                near_behind = returned_behind order (near_own given deep) (near_own given (suc deep)) (near_packet given deep) (known_at (new given) bounds c.state c.note) c.fn c.gn c.near_at (near_around given deep shallow) refl c.low (flat_register q.fn R0) (flat_register q.gn R0) (c.fn.slot + 1) (c.gn.slot + 1) q.fn.memory q.gn.memory rns qns q.note.apart q.promise.back q.promise.spare
                    c.near_left c.new_near_left q.new_at.near_at.common o'.near_state.flat near_fits.flat near_values;
                wide_behind = returned_behind order (wide_own given deep) (wide_own given (suc deep)) (wide_packet given deep) (known_at (new given) bounds c.state c.note) c.fw c.gw c.wide_at (wide_around given deep shallow) refl c.low (flat_register q.fw R0) (flat_register q.gw R0) (c.fw.slot + 1) (c.gw.slot + 1) q.fw.memory q.gw.memory rws qws q.note.apart q.promise.back q.promise.spare
                    c.wide_left c.new_wide_left q.new_at.wide_at.common o'.wide_state.flat wide_fits.flat wide_values;
                near_fits = near_fits;
                wide_fits = wide_fits;
                counts = λ want e. kept_counts known' c.made (made_before given deep (suc j)) (Some c.fn.slot) Kept values values want (λ want h. false≢true h) turned (λ h e. refl) counters e;
                unlike = λ z e b. unlike z (q.promises.never z b);
                isolated = λ e. exit_alone order q.state x.0 (does_there order js new_valid context bytes short' never q.state x.0 Exit at.there x.1) (q.new_at.isolated e);
              }

  pub by_exit : (deep j : ℕ) (at : At given deep j Exit Exit) → returns (known given deep at.ready) Exit Exit ≡ true → Somewhere given (suc j) ⊎ Ended
  by_exit zero j at good = inr (by_end j at good)
  by_exit (suc deep) j at good = inl (by_return deep j at good)
