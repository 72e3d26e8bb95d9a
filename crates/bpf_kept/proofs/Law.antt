-- The law: the start, and then the simulation to the end.
use Rattle.std.proofs.Common.{◌≡◌, ℕ, suc, ◌+◌, ◌-◌, ◌*◌, ◌≤◌, refl, sym, subst, arith, Bool, true, false, List, [], length, Option, Some, None}
use Rattle.std.proofs.lemmas.Bool.{false≢true}
use Rattle.std.proofs.lemmas.Option.{none-some}
use Rattle.bpf_insn.specs.Image.{IsProgram}
use Rattle.bpf_insn.specs.Laws.{AreBytes}
use Rattle.bpf_insn.specs.declared.order.Order.{Order}
use Rattle.bpf_insn.specs.declared.instruction.Insn.{Insn}
use Rattle.bpf_semantics.specs.Flat.{FlatState, IsFlat, frame_start}
use Rattle.bpf_kept.specs.Far.{near, wide}
use Rattle.bpf_kept.specs.Zero.{zero_after}
use Rattle.bpf_kept.specs.Meaning.{Bounds, with_turns, FlatEnds, EndsAt, AreGiven, most_for_one, NeverStuck}
use Rattle.bpf_kept.specs.declared.notes.TurnsLeft.{TurnsLeft}
use Rattle.bpf_kept.specs.declared.notes.Change.TheVariants.{Kept}
use Rattle.bpf_kept.specs.States.{States, AreStates}
use Rattle.bpf_kept.specs.Terms.{Values, IsCommon, value_in}
use Rattle.bpf_kept.specs.Counters.{Counts, counts_behind}
use Rattle.bpf_kept.specs.Matching.{Notes, Cuts, most_at_start, start_slot, starts, start_facts, known_at_start, Matches, StandsForExit, shown_turns, AreWithin}
use Rattle.bpf_kept.specs.Laws.{MatchingKeepsFlatMeaning}
use Rattle.bpf_kept.proofs.HoldsLaw.{IsHigh}
use Rattle.bpf_kept.proofs.FrameLaw.{IsEnd}
use Rattle.bpf_kept.proofs.ExtraLaw.{kept_hold}
use Rattle.bpf_kept.proofs.EdgeLaw.{Behind}
use Rattle.bpf_kept.proofs.Simulation.{program}
use Rattle.bpf_kept.proofs.Setting.{Setting, packet_of}
use Rattle.bpf_kept.proofs.Beside.{OldAt, made_before}
use Rattle.bpf_kept.proofs.Arrivals.{Ready, arrived}
use Rattle.bpf_kept.proofs.StartLaw.{AreFirst, start_holds, near_high, wide_high, near_start, wide_start, near_state, wide_state, near_common, wide_common, near_first, wide_first, cut, has_length}
use Rattle.bpf_kept.proofs.Waiting.{last_promise, itself_promises}
use Rattle.bpf_kept.proofs.Ends.{ends}

-- ---- with one byte order

module _ (given : Setting) where
  open given use {order, is, js, notes, bounds, old_valid, new_valid, matches, own, own_is, context, bytes, long, never, v, k, l, near_ends, wide_ends}

  -- what is known at the start
  start_behind : (own : ℕ) (f g : FlatState) → IsHigh own → IsFlat g → IsEnd own f.registers → IsEnd own g.registers → IsCommon own (packet_of given []) [] f g
      → AreFirst own (packet_of given []) bounds.padded bounds.length f g
      → Behind order own (packet_of given []) (known_at_start (program order js) bounds) Kept f g
  unfolding known_at_start
  start_behind own f g high flat end new_end common at =
      record {
        high = high;
        room = at.room;
        flat = at.flat;
        new_flat = flat;
        pointers = (end, new_end);
        holds = λ want e. kept_hold own (start_facts bounds.padded bounds.length) high (value_in order own (packet_of given []) f) (value_in order own (packet_of given []) g) want refl refl (start_holds order own (packet_of given []) bounds.padded bounds.length f g at) e;
        common = λ a small seen out. common a small seen (λ apart. out apart.0 apart.1 apart.2 apart.3);
      }

  no_counters : (v : Values) (want : Option TurnsLeft) → counts_behind (known_at_start (program order js) bounds) Kept None want ≡ true → Counts bounds.turns (made_before given 0 0) v want
  unfolding known_at_start
  no_counters v None e = tt
  no_counters v (Some want) e = absurd (false≢true e)

  few_first : (padded : Bool) (n : ℕ) → n ≤ start_slot padded → n + (most_at_start - start_slot padded) ≤ most_at_start + most_for_one * 0
  few_first true n le = omega arith
  few_first false n le = omega arith

  begins : Ready given 0 0
  unfolding zero_after starts known_at_start
  begins =
      let fn : FlatState = near_start given in
      let fw : FlatState = wide_start given in
      let o : OldAt given 0 0 fn fw = record {
        near_run = refl;
        wide_run = refl;
        near_before = omega arith;
        wide_before = omega arith;
        near_state = near_state given;
        wide_state = wide_state given;
        shallow = omega arith;
        near_deep = refl;
        wide_deep = refl;
        slots_same = refl;
      } in
      let h = has_length given bounds.padded own_is (λ e. subst (Cuts (program order js)) (sym long) (matches.cuts e)) in
      let first : ℕ = start_slot bounds.padded in
      let gn : FlatState = cut given (near false) (length own) first in
      let gw : FlatState = cut given (wide false) (length own) first in
      (arrived given 0 (known_at_start (program order js) bounds) Kept None 0 h.n 0 (most_at_start - first) first h.at.state fn fw gn gw matches.start (sym h.at.near_fits.slot_is) refl (few_first bounds.padded h.n h.few) last_promise (itself_promises last_promise) (itself_promises last_promise) o
      (record {
        run = h.at.run;
        near_level = refl;
        wide_level = refl;
        near_behind = start_behind (frame_start (near false) 0) fn gn near_high h.at.near_fits.flat refl refl (near_common given) (near_first given first);
        wide_behind = start_behind (frame_start (wide false) 0) fw gw wide_high h.at.wide_fits.flat refl refl (wide_common given) (wide_first given first);
        near_fits = h.at.near_fits;
        wide_fits = h.at.wide_fits;
        counts = λ want e. no_counters (value_in order (frame_start (near false) 0) (packet_of given []) gn) want e;
        unlike = λ z e b. absurd (none-some z b);
        isolated = h.at.isolated;
      })).0

  pub ended : EndsAt (program order js) context v (StandsForExit (program order is) notes) (most_for_one * suc (suc k))
  ended = ends given k 0 (omega arith) (record { deep = 0; ready = begins })

-- ---- the law

with_order : (order : Order) (is js : List Insn) (notes : Notes) (bounds : Bounds) (states : States) → IsProgram is → IsProgram js → Matches (program order is) (program order js) notes bounds states → NeverStuck (program order js) bounds.length → AreStates (program order js) bounds.length states
    → (turns : ℕ) → AreWithin (shown_turns notes bounds.turns) turns
    → (own context : List ℕ) (v k l : ℕ) → AreBytes context → length context ≡ bounds.length → AreGiven bounds.padded order own context
    → FlatEnds (near bounds.padded) (program order is) own (with_turns turns bounds) v k → FlatEnds (wide bounds.padded) (program order is) own (with_turns turns bounds) v l → EndsAt (program order js) context v (StandsForExit (program order is) notes) (most_for_one * suc (suc k))
with_order order is js notes bounds states old_valid new_valid matches never states_are turns few_turns own context v k l bytes long own_is near_ends wide_ends =
    ended (record {
      order = order;
      is = is;
      js = js;
      notes = notes;
      bounds = bounds;
      old_valid = old_valid;
      new_valid = new_valid;
      states = states;
      matches = matches;
      own = own;
      context = context;
      own_is = own_is;
      bytes = bytes;
      long = long;
      never = λ n s run stuck. never context n s bytes long run stuck;
      states_are = states_are;
      v = v;
      k = k;
      l = l;
      turns = turns;
      few_turns = few_turns;
      near_ends = near_ends;
      wide_ends = wide_ends;
    })

pub matching_keeps_flat_meaning : MatchingKeepsFlatMeaning
matching_keeps_flat_meaning old new notes bounds states old_valid new_valid matches never states_are turns few_turns own context v k l bytes long given near_ends wide_ends =
    subst (λ order. Matches old (program order new.list) notes bounds states → NeverStuck (program order new.list) bounds.length → AreStates (program order new.list) bounds.length states → EndsAt (program order new.list) context v (StandsForExit old notes) (most_for_one * suc (suc k))) (sym matches.order_is)
    (λ m n a. with_order old.order old.list new.list notes bounds states old_valid new_valid m n a turns few_turns own context v k l bytes long given near_ends wide_ends) matches never states_are
