-- Where edges lead: in front of an old instruction, with what is noted there.
use Rattle.std.proofs.Common.{◌≡◌, ℕ, suc, ◌+◌, ◌*◌, ◌≤◌, ◌==◌, refl, sym, ap, ◌∙◌, subst, arith, true, false, List, Option, Some, None}
use Rattle.std.specs.Prelude.{nat_le, ◌&&◌}
use Rattle.std.specs.List.{list_all}
use Rattle.std.specs.Option.{option_map_or}
use Rattle.std.proofs.lemmas.Bool.{and_parts, eqb-true, leb-true, false≢true}
use Rattle.bpf_insn.specs.Instruction.{Instructions, slot_count}
use Rattle.bpf_insn.specs.declared.instruction.Reg.TheVariants.{R0}
use Rattle.bpf_semantics.specs.State.{State, start}
use Rattle.bpf_semantics.specs.Flat.{FlatState, frame_start}
use Rattle.bpf_kept.specs.Far.{near, wide}
use Rattle.bpf_kept.specs.Meaning.{most_for_one}
use Rattle.bpf_kept.specs.declared.notes.Holder.TheVariants.{Register}
use Rattle.bpf_kept.specs.declared.notes.TurnsLeft.{TurnsLeft}
use Rattle.bpf_kept.specs.declared.notes.Note.{Note}
use Rattle.bpf_kept.specs.declared.notes.Change.{Change}
use Rattle.bpf_kept.specs.Terms.{Packet, Values, value_in}
use Rattle.bpf_kept.specs.Rules.{Known}
use Rattle.bpf_kept.specs.Behind.{holds_behind, are_told}
use Rattle.bpf_kept.specs.Counters.{Counts, AllCount, is_spared, counts_behind, all_count_behind}
use Rattle.bpf_kept.specs.Calls.{is_this}
use Rattle.bpf_semantics.specs.Run.{Steps}
use Rattle.bpf_state.specs.State.{AbstractState}
use Rattle.bpf_kept.specs.States.{HasNumbers}
use Rattle.bpf_kept.specs.Matching.{note_at, most_at_start, said, known_at, still_barred, is_given, keeps_back, suits, arrives, extra, adds, IsExtra}
use Rattle.bpf_kept.proofs.HoldsLaw.{all_of}
use Rattle.bpf_kept.proofs.EdgeLaw.{settled}
use Rattle.bpf_kept.proofs.StatesLaw.{register_has}
use Rattle.bpf_kept.proofs.Simulation.{program}
use Rattle.bpf_kept.proofs.Setting.{Setting, starts_below, packet_of}
use Rattle.bpf_kept.proofs.Beside.{OldAt, NewAt, Arriving, made_before}
use Rattle.bpf_kept.proofs.Waiting.{Promise, Promises, promise_of, then_promises, note_promises, this_is, WaitsAt, extra_waits}
use Rattle.bpf_kept.proofs.CounterLemmas.{counted_turns}
use Rattle.bpf_kept.proofs.Extras.{front_at, one_extra}

module _ (given : Setting) (deep : ℕ) where
  open given use {order, is, js, notes, bounds, states, states_are, old_valid, new_valid, matches, own, own_is, context, bytes, long, never, v, k, l, near_ends, wide_ends}

  abbrev old : Instructions
  old = program order is

  abbrev new : Instructions
  new = program order js

  abbrev near_own : ℕ
  near_own = frame_start (near false) deep

  abbrev wide_own : ℕ
  wide_own = frame_start (wide false) deep

  abbrev near_packet : Packet
  near_packet = packet_of given (starts_below (near false) deep)

  abbrev wide_packet : Packet
  wide_packet = packet_of given (starts_below (wide false) deep)

  pub record Ready (j : ℕ) : Type 0 where
    pub n : ℕ
    pub state : State
    pub fn : FlatState
    pub fw : FlatState
    pub gn : FlatState
    pub gw : FlatState
    pub note : Note
    pub noted : note_at notes state.top.slot ≡ Some note
    pub old_is : fn.slot ≡ note.old
    pub few : n + note.extras ≤ most_at_start + most_for_one * j
    pub promise : Promise
    pub promises : Promises (promise_of note) promise
    pub waits : WaitsAt given deep j promise fn fw gn gw
    pub old_at : OldAt given deep j fn fw
    pub new_at : NewAt given deep (known_at new bounds (states state.top.slot) note) j n state fn fw gn gw

  -- what is known there
  abbrev pub known_there : {j : ℕ} → Ready j → Known
  known_there r = known_at new bounds (states r.state.top.slot) r.note

  all_counted : (known : Known) (change : Change) (step : Option ℕ) (counters : List (Option TurnsLeft)) (made : ℕ → ℕ) (v : Values) → ((want : Option TurnsLeft) → counts_behind known change step want ≡ true → Counts bounds.turns made v want) → all_count_behind known change step counters ≡ true → AllCount bounds.turns made v counters
  unfolding all_count_behind
  all_counted known change step counters made v counts e = all_of (counts_behind known change step) (Counts bounds.turns made v) counters e counts

  -- the new program's numbers are known there
  numbers_there : (n : ℕ) (s : State) → Steps new n (start context) s → (a : AbstractState) → states s.top.slot ≡ Some a → HasNumbers a s
  numbers_there n s run a e = states_are context n s a bytes long run e

  -- an edge leads there
  pub arrived : (known : Known) (change : Change) (step : Option ℕ) (j n slot most new_slot : ℕ) (s : State) (fn fw gn gw : FlatState) → arrives notes known change step slot most new_slot ≡ true → s.top.slot ≡ new_slot → fn.slot ≡ slot → n + most ≤ most_at_start + most_for_one * j
      → (promise : Promise) → Promises (record { back = known.back; spare = known.spare }) promise → WaitsAt given deep j promise fn fw gn gw → OldAt given deep j fn fw → Arriving given deep known change step j n s fn fw gn gw → (r : Ready j) × (r.note.extras ≤ most)
  unfolding arrives
  arrived known change step j n slot most new_slot s fn fw gn gw e at old_at few promise promises waits o a = by_note (note_at notes new_slot) refl e
    where
      by_note : (c : Option Note) → note_at notes new_slot ≡ c → option_map_or (suits known change step slot most) c false ≡ true → (r : Ready j) × (r.note.extras ≤ most)
      by_note None ec h = absurd (false≢true h)
      by_note (Some note) ec h =
          let p = and_parts (note.old == slot) (nat_le note.extras most && (is_given known change step note && keeps_back known note)) h in
          let q = and_parts (nat_le note.extras most) (is_given known change step note && keeps_back known note) p.1 in
          let b = and_parts (is_given known change step note) (keeps_back known note) q.1 in
          let r = and_parts (list_all (holds_behind known.facts change) (said note)) (are_told known change note.apart && (all_count_behind known change step note.counters && option_map_or (still_barred known change) note.barred true)) b.0 in
          let t = and_parts (are_told known change note.apart) (all_count_behind known change step note.counters && option_map_or (still_barred known change) note.barred true) r.1 in
          let u = and_parts (all_count_behind known change step note.counters) (option_map_or (still_barred known change) note.barred true) t.1 in
          let little : note.extras ≤ most = leb-true note.extras most q.0 in (
            record {
              n = n;
              state = s;
              fn = fn;
              fw = fw;
              gn = gn;
              gw = gw;
              note = note;
              noted = ap (note_at notes) at ∙ ec;
              old_is = old_at ∙ sym (eqb-true note.old slot p.0);
              few = omega arith;
              promise = promise;
              promises = then_promises (promise_of note) (record { back = known.back; spare = known.spare }) promise (note_promises known note b.1) promises;
              waits = waits;
              old_at = o;
              new_at = record {
                run = a.run;
                near_level = a.near_level;
                wide_level = a.wide_level;
                near_at = settled order near_own near_packet known change fn gn a.near_behind new bounds (states s.top.slot) note
                    (register_has (states s.top.slot) a.near_fits a.near_behind.new_flat (numbers_there n s a.run)) r.0 t.0;
                wide_at = settled order wide_own wide_packet known change fw gw a.wide_behind new bounds (states s.top.slot) note
                    (register_has (states s.top.slot) a.wide_fits a.wide_behind.new_flat (numbers_there n s a.run)) r.0 t.0;
                near_fits = a.near_fits;
                wide_fits = a.wide_fits;
                counted = all_counted known change step note.counters (made_before given deep j) (value_in order near_own near_packet gn) a.counts u.0;
                unlike = λ z ez same. (let c = and_parts (is_spared change (Register R0)) (is_this known.barred z) (ap (λ o. option_map_or (still_barred known change) o true) (sym ez) ∙ u.1) in a.unlike z c.0 (this_is known.barred z c.1) same);
                isolated = a.isolated;
              };
            },
            little,
          )

  -- an extra instruction
  pub extra_step : (j left : ℕ) (r : Ready j) → r.note.extras ≡ suc left → IsExtra old new notes bounds (states r.state.top.slot) r.state.top.slot r.note left
      → (q : Ready j) × (q.note.extras ≤ left)
  unfolding adds
  extra_step j left r e x = by_change (extra (front_at given deep r.note.old) (known_there r) x.moved) refl x.good
    where
      by_change : (c : Option Change) → extra (front_at given deep r.note.old) (known_there r) x.moved ≡ c
          → option_map_or (λ change. arrives notes (known_there r) change None r.note.old left (r.state.top.slot + slot_count x.moved)) c false ≡ true
          → (q : Ready j) × (q.note.extras ≤ left)
      by_change None ec h = absurd (false≢true h)
      by_change (Some change) ec h =
          let y = one_extra given deep (known_there r) change j r.n r.state r.fn r.fw r.gn r.gw x.moved refl r.old_at r.new_at x.moved_is
          (λ turn. counted_turns notes bounds.turns given.turns r.state.top.slot r.fn.slot r.note x.moved r.noted turn given.few_turns)
          (subst (λ slot. extra (front_at given deep slot) (known_there r) x.moved ≡ Some change) (sym r.old_is) ec) in
          let few = r.few in
          arrived (known_there r) change None j (suc r.n) r.note.old left (r.state.top.slot + slot_count x.moved) y.state r.fn r.fw y.hn y.hw h y.at r.old_is (omega arith) r.promise r.promises (extra_waits given deep j r.promise r.fn r.fw r.gn r.gw y.hn y.hw r.old_at.shallow y.near_stays y.wide_stays r.waits) r.old_at y.arriving
