-- Extra instructions, which the new program does while the old one stands still: what is made, guards, tests of counters and of what is given back.
use Rattle.std.proofs.Common.{◌≡◌, ◌⊎◌, ℕ, zero, suc, ◌+◌, ◌%◌, ◌^◌, ◌<◌, ◌≤◌, ◌==◌, inl, inr, refl, sym, ap, ◌∙◌, subst, arith, Bool, true, false, [], ◌∷◌, length, Option, Some, None, cond}
use Rattle.bpf_kept.specs.declared.notes.Term.{Term}
use Rattle.std.specs.Prelude.{ℤ, pos, ◌+ℤ◌, get_or, ◌&&◌, ◌||◌}
use Rattle.std.specs.List.{AllByRecursion, list_any}
use Rattle.std.specs.Option.{option_map_or}
use Rattle.std.proofs.lemmas.Bool.{and_parts, or_cases, cond-true, eqb-true, eq-eqb, ltb-true, false≢true}
use Rattle.std.proofs.lemmas.Option.{same_Some}
use Rattle.bpf_insn.specs.Arithmetic.{extended, jumps}
use Rattle.bpf_insn.specs.Image.{HasEncoding}
use Rattle.bpf_insn.specs.Instruction.{Instructions, register_number, slot_count, insn_at}
use Rattle.bpf_insn.specs.declared.instruction.Reg.{Reg}
use Rattle.bpf_insn.specs.declared.instruction.Reg.TheVariants.{R0}
use Rattle.bpf_insn.specs.declared.instruction.Operand.{Operand}
use Rattle.bpf_insn.specs.declared.instruction.Operand.TheVariants.{Imm, Reg as FromReg}
use Rattle.bpf_insn.specs.declared.instruction.Width.TheVariants.{W64}
use Rattle.bpf_insn.specs.declared.instruction.AluOp.TheVariants.{Add}
use Rattle.bpf_insn.specs.declared.instruction.Cond.{Cond}
use Rattle.bpf_insn.specs.declared.instruction.Cond.TheVariants.{Eq, Gt, Lt}
use Rattle.bpf_insn.specs.declared.instruction.Insn.{Insn}
use Rattle.bpf_insn.specs.declared.instruction.Insn.TheVariants.{Alu, JumpIf}
use Rattle.bpf_semantics.specs.State.{State, start}
use Rattle.bpf_semantics.specs.Blocks.{head_bytes}
use Rattle.bpf_semantics.specs.Flat.{FlatState, addresses, frame_start, flat_register, flat_put, flat_next, flat_does}
use Rattle.bpf_semantics.specs.declared.value.Value.TheVariants.{Number}
use Rattle.bpf_semantics.proofs.FlatBase.{stands as stands_in}
use Rattle.bpf_semantics.proofs.NumberLemmas.{modulo_below}
use Rattle.bpf_semantics.proofs.FlatArith.{same_refl, same_sym, same_trans, same_plus, same_equal, modulo-same}
use Rattle.std.proofs.lemmas.Int.{ints}
use Rattle.bpf_semantics.proofs.StateLemmas.{encoding_at, option_map_some}
use Rattle.bpf_kept.specs.Far.{bytes_before, near, wide}
use Rattle.bpf_kept.specs.Zero.{zero_start}
use Rattle.bpf_kept.specs.Meaning.{counted, turns_in_call}
use Rattle.bpf_kept.specs.declared.reach.GuardLimit.{GuardLimit}
use Rattle.bpf_kept.specs.declared.reach.GuardLimit.TheVariants.{Most, MostOfSmall, Least}
use Rattle.bpf_kept.specs.declared.notes.Holder.{Holder}
use Rattle.bpf_kept.specs.declared.notes.Holder.TheVariants.{Register, Slot, Length}
use Rattle.bpf_kept.specs.declared.notes.Fact.{Fact}
use Rattle.bpf_kept.specs.declared.notes.Change.{Change}
use Rattle.bpf_kept.specs.declared.notes.Change.TheVariants.{Kept, Made}
use Rattle.bpf_kept.specs.Terms.{Packet, Facts, Differs, DiffersBy, shift, Holds, AllHold, value_in}
use Rattle.bpf_kept.specs.Rules.{Known, same_register, is_register, is_same, pinned}
use Rattle.bpf_kept.specs.Behind.{of_number}
use Rattle.bpf_kept.specs.Counters.{Counts, has_turn}
use Rattle.bpf_kept.specs.Calls.{is_this, tests_barred}
use Rattle.bpf_num.specs.Laws.{Member}
use Rattle.bpf_kept.specs.States.{held_number}
use Rattle.bpf_kept.specs.Guards.{Front, small_end, is_small, most_limit, front_behind, guarded, is_tested_by, is_tested, is_added, guards_sum, is_limited, has_end, is_reached, register_reached, number_reached, end_reached, passes, accesses_ahead, farthest_ahead}
use Rattle.bpf_kept.specs.Matching.{made_in, makes, extra}
use Rattle.bpf_kept.proofs.HoldsLaw.{any_holds, held, register_is, register_now}
use Rattle.bpf_kept.proofs.PutValue.{put_value, put_does}
use Rattle.bpf_kept.proofs.TermLaw.{differs_same, same_differs}
use Rattle.bpf_kept.proofs.ExtraLaw.{of_number_is, pinned_is}
use Rattle.bpf_kept.proofs.CountLaw.{Advances, stands_still, kept_counts, extra_counts, test_is}
use Rattle.bpf_kept.proofs.StoreLaw.{register_same, at_same, kept_still, made_alone}
use Rattle.bpf_kept.proofs.AheadLaw.{Inside, all_inside}
use Rattle.bpf_kept.proofs.GuardLaw.{IsWithin, guard_passes}
use Rattle.bpf_kept.proofs.EndLaw.{end_is, end_passes}
use Rattle.bpf_kept.proofs.Simulation.{TestsNumber, greater_number, less_number, IsMostGuard, IsEndGuard, IsLeastGuard, program, zero_plain, put_turns, guard_number, guard_is, end_does, most_does, least_does, answers, test_falls, test_turns, does_there, steps_on, answers_same}
use Rattle.bpf_kept.proofs.PacketLaw.{own_fits}
use Rattle.bpf_kept.proofs.Setting.{Setting, runs, starts_below, packet_of}
use Rattle.bpf_kept.proofs.Beside.{OldAt, NewAt, Arriving, new_next, made_before, old_next}
use Rattle.bpf_kept.proofs.Waiting.{this_is, Stays, turn_made}

module _ (given : Setting) (deep : ℕ) where
  open given use {order, is, js, notes, bounds, states, states_are, old_valid, new_valid, matches, own, own_is, context, bytes, long, never, v, k, l, near_ends, wide_ends}

  abbrev old : Instructions
  old = program order is

  abbrev new : Instructions
  new = program order js

  abbrev near_own : ℕ
  near_own = frame_start (near false) deep

  abbrev wide_own : ℕ
  wide_own = frame_start (wide false) deep

  abbrev near_packet : Packet
  near_packet = packet_of given (starts_below (near false) deep)

  abbrev wide_packet : Packet
  wide_packet = packet_of given (starts_below (wide false) deep)

  -- the packet's length is one
  wide_value : (f : FlatState) (of : Option Holder) → value_in order wide_own wide_packet f of ≡ value_in order wide_own near_packet f of
  wide_value f None = refl
  wide_value f (Some Length) = refl
  wide_value f (Some (Register r)) = refl
  wide_value f (Some (Slot n)) = refl

  short : length context < 2 ^ 32
  short = subst (λ n. n < 2 ^ 32) (sym long) matches.short

  own_few : bytes_before bounds.padded + length own ≤ bounds.length
  own_few = subst (λ n. bytes_before bounds.padded + length own ≤ n) long (own_fits bounds.padded order own context own_is)

  own_short : length own < 2 ^ 32
  own_short = let few = own_few in let s = matches.short in omega arith

  -- ---- extra instructions by themselves

  pub record Extended (known : Known) (change : Change) (j n : ℕ) (m : Insn) (s : State) (fn fw gn gw : FlatState) : Type 0 where
    pub state : State
    pub hn : FlatState
    pub hw : FlatState
    pub arriving : Arriving given deep known change None j (suc n) state fn fw hn hw
    pub near_stays : Stays near_own near_packet gn hn
    pub wide_stays : Stays wide_own wide_packet gw hw
    pub at : state.top.slot ≡ s.top.slot + slot_count m

  made_extra : (known : Known) (j n : ℕ) (s : State) (fn fw gn gw : FlatState) (m : Insn) (h : Holder) → known.turns ≡ bounds.turns → NewAt given deep known j n s fn fw gn gw → insn_at js s.top.slot ≡ Some m → made_in m ≡ Some h → Extended known (Made h m) j n m s fn fw gn gw
  made_extra known j n s fn fw gn gw m h turns at there into =
      let enc : HasEncoding m = encoding_at js new_valid.encoding s.top.slot m there in
      let a = made_alone order near_own near_packet known m h fn gn at.near_at enc into in
      let b = made_alone order wide_own wide_packet known m h fw gw at.wide_at enc into in
      let x = new_next given deep known j n s fn fw gn gw a.new b.new m at there a.new_does b.new_does a.new_returns b.new_returns in
      record {
        state = x.0;
        hn = a.new;
        hw = b.new;
        arriving = record {
          run = x.2.run;
          near_level = x.2.near_level;
          wide_level = x.2.wide_level;
          near_behind = a.behind;
          wide_behind = b.behind;
          near_fits = x.2.near_fits;
          wide_fits = x.2.wide_fits;
          counts = λ want e. subst (λ t. Counts t (made_before given deep j) (value_in order near_own near_packet a.new) want) turns
              (extra_counts order near_own near_packet known (made_before given deep j) h m gn (value_in order near_own near_packet a.new) want (subst (λ t. t < addresses) (sym turns) matches.few_turns) at.near_at.room at.near_at.new_flat at.near_at.pointers.1 enc a.elsewhere a.here at.counted e);
          unlike = λ z e b same. at.unlike z b (sym (a.elsewhere (Some (Register R0)) e) ∙ same);
          isolated = x.2.isolated;
        };
        near_stays = record { returns = a.new_returns; unseen = a.unseen };
        wide_stays = record { returns = b.new_returns; unseen = b.unseen };
        at = sym x.2.near_fits.slot_is ∙ a.new_slot ∙ ap (λ z. z + slot_count m) at.near_fits.slot_is;
      }

  -- one that goes on at the next instruction and changes nothing
  passed_extra : (known : Known) (j n : ℕ) (s : State) (fn fw gn gw : FlatState) (m : Insn) → known.turns ≡ bounds.turns → NewAt given deep known j n s fn fw gn gw → insn_at js s.top.slot ≡ Some m → flat_does order m gn ≡ Some (flat_next m gn) → flat_does order m gw ≡ Some (flat_next m gw) → Extended known Kept j n m s fn fw gn gw
  passed_extra known j n s fn fw gn gw m turns at there en ew =
      let x = new_next given deep known j n s fn fw gn gw (flat_next m gn) (flat_next m gw) m at there en ew refl refl in
      record {
        state = x.0;
        hn = flat_next m gn;
        hw = flat_next m gw;
        arriving = record {
          run = x.2.run;
          near_level = x.2.near_level;
          wide_level = x.2.wide_level;
          near_behind = kept_still order near_own near_packet known fn gn (gn.slot + slot_count m) at.near_at;
          wide_behind = kept_still order wide_own wide_packet known fw gw (gw.slot + slot_count m) at.wide_at;
          near_fits = x.2.near_fits;
          wide_fits = x.2.wide_fits;
          counts = λ want e. subst (λ t. Counts t (made_before given deep j) (value_in order near_own near_packet (flat_next m gn)) want) turns
              (kept_counts known (made_before given deep j) (made_before given deep j) None Kept (value_in order near_own near_packet gn) (value_in order near_own near_packet (flat_next m gn)) want (λ want h. false≢true h) (stands_still (made_before given deep j)) (λ h e. at_same order near_own near_packet (gn.slot + slot_count m) gn (Some h)) at.counted e);
          unlike = λ z e b same. at.unlike z b same;
          isolated = x.2.isolated;
        };
        near_stays = record { returns = refl; unseen = λ a small out. refl };
        wide_stays = record { returns = refl; unseen = λ a small out. refl };
        at = sym x.2.near_fits.slot_is ∙ ap (λ z. z + slot_count m) at.near_fits.slot_is;
      }

  -- ---- guards

  near_inside : (j : ℕ) (fn fw : FlatState) → OldAt given deep j fn fw → (r : Reg)
      → AllByRecursion (Inside (near bounds.padded) (length own) bounds.untouched deep r (flat_register fn r)) (accesses_ahead old r farthest_ahead fn.slot)
  near_inside j fn fw o r = all_inside (near bounds.padded) old old_valid own (runs given) v k near_ends deep r farthest_ahead j fn o.near_run o.near_before o.near_deep o.near_state

  wide_inside : (j : ℕ) (fn fw : FlatState) → OldAt given deep j fn fw → (r : Reg)
      → AllByRecursion (Inside (wide bounds.padded) (length own) bounds.untouched deep r (flat_register fw r)) (accesses_ahead old r farthest_ahead fn.slot)
  wide_inside j fn fw o r =
      subst (λ slot. AllByRecursion (Inside (wide bounds.padded) (length own) bounds.untouched deep r (flat_register fw r)) (accesses_ahead old r farthest_ahead slot)) o.slots_same
      (all_inside (wide bounds.padded) old old_valid own (runs given) v l wide_ends deep r farthest_ahead j fw o.wide_run o.wide_before o.wide_deep o.wide_state)

  -- in front of which old instruction
  abbrev pub front_at : ℕ → Front
  front_at slot = record { old = old; slot = slot; bounds = bounds }

  -- what is known of the register at both placements
  abbrev pub Known_at : (fn fw gn gw : FlatState) (fact : Fact) → Type 0
  Known_at fn fw gn gw fact = Holds near_own (value_in order near_own near_packet fn) (value_in order near_own near_packet gn) fact × Holds wide_own (value_in order wide_own wide_packet fw) (value_in order wide_own wide_packet gw) fact

  both_known : (fn fw gn gw : FlatState) (facts : Facts) → AllHold near_own (value_in order near_own near_packet fn) (value_in order near_own near_packet gn) facts → AllHold wide_own (value_in order wide_own wide_packet fw) (value_in order wide_own wide_packet gw) facts → AllByRecursion (λ fact. Known_at fn fw gn gw fact) facts
  both_known fn fw gn gw [] p q = tt
  both_known fn fw gn gw (fact ∷ facts) p q = ((p.0, q.0), both_known fn fw gn gw facts p.1 q.1)

  -- what is tested, where the guard's fact is of a register
  abbrev pub AreWithin : (gn gw : FlatState) (dst : Reg) (limit : GuardLimit) → Type 0
  AreWithin gn gw dst limit = IsWithin limit (flat_register gn dst) × IsWithin limit (flat_register gw dst)

  -- the number that is tested
  pub record Tested (s : State) (gn gw : FlatState) (dst : Reg) : Type 0 where
    pub x : ℕ
    pub in_near : flat_register gn dst ≡ x
    pub in_wide : flat_register gw dst ≡ x
    pub small : x < addresses

  tested_there : (known : Known) (j n : ℕ) (s : State) (fn fw gn gw : FlatState) (cond : Cond) (dst : Reg) (src : Operand) (off : ℤ) → TestsNumber cond
      → NewAt given deep known j n s fn fw gn gw → insn_at js s.top.slot ≡ Some (JumpIf cond W64 dst src off) → Tested s gn gw dst
  tested_there known j n s fn fw gn gw cond dst src off tests at there =
      let m : Insn = JumpIf cond W64 dst src off in
      let y = steps_on order js new_valid context bytes short never n s m at.run there (test_turns m cond W64 dst src off refl) in
      let number = guard_number order s y.0 cond dst src off tests (does_there order js new_valid context bytes short never s y.0 m there y.1) in
      let in_near : flat_register gn dst ≡ number.0 = stands_in at.near_fits dst (Number number.0) number.1 in
      record { x = number.0; in_near = in_near; in_wide = stands_in at.wide_fits dst (Number number.0) number.1; small = subst (λ z. z < addresses) in_near (at.near_at.new_flat.numbers (register_number dst)) }

  -- a number in front of the sum that adds it to a pointer whose address is known
  sum_pin : (start a x y : ℕ) (t : Term) → x < addresses → y ≡ x → Differs start t a 0 → Differs start t ((a + y) % addresses) x
  sum_pin start a x y t small same d =
      let zero_is = differs_same start t a 0 d in
      let sum = same_plus (same_refl (pos x)) zero_is in
      let left : pos x +ℤ pos 0 ≡ pos x = omega (arith, ints) in
      let right : pos x +ℤ (pos a +ℤ shift start t) ≡ pos (a + x) +ℤ shift start t = omega (arith, ints) in
      subst (λ y. Differs start t ((a + y) % addresses) x) (sym same)
      (same_differs start t ((a + x) % addresses) x small (same_trans (same_equal (sym left)) (same_trans sum (same_trans (same_equal right) (same_plus (same_sym (modulo-same (pos (a + x)))) (same_refl (shift start t)))))))

  passed_by : (gn gw : FlatState) (dst : Reg) (limit : GuardLimit) (s : State) (number : Tested s gn gw dst) → IsWithin limit number.x → AreWithin gn gw dst limit
  passed_by gn gw dst limit s number within = (subst (IsWithin limit) (sym number.in_near) within, subst (IsWithin limit) (sym number.in_wide) within)

  sum_limited : (known : Known) (j n : ℕ) (s : State) (fn fw gn gw : FlatState) (to r dst : Reg) (limit : GuardLimit) (t : Term) → OldAt given deep j fn fw
      → NewAt given deep known j n s fn fw gn gw → Tested s gn gw dst → insn_at is fn.slot ≡ Some (Alu Add W64 to (FromReg r)) → same_register r dst ≡ true
      → is_same known.facts dst ≡ true
      → pinned known.facts (Register to) ≡ Some t → is_tested_by (front_behind (front_at fn.slot)) limit t to ≡ true → AreWithin gn gw dst limit
  sum_limited known j n s fn fw gn gw to r dst limit t o at number here er same et tested =
      let i : Insn = Alu Add W64 to (FromReg r) in
      let hn : FlatState = flat_put to (put_value order i fn) (flat_next i fn) in
      let hw : FlatState = flat_put to (put_value order i fw) (flat_next i fw) in
      let o' = old_next given deep j fn fw hn hw i o here (zero_plain (near bounds.padded) order i fn hn (put_does order i to fn refl)) (zero_plain (wide bounds.padded) order i fw hw (put_does order i to fw refl)) (put_turns i to refl) refl refl (ap (λ z. z + slot_count i) o.slots_same) in
      let x : ℕ = number.x in
      let of : dst ≡ r = register_is r dst er in
      let in_old : flat_register fn r ≡ x = ap (flat_register fn) (sym of) ∙ sym (register_same order near_own near_packet known fn gn dst at.near_at same) ∙ number.in_near in
      let in_old' : flat_register fw r ≡ x = ap (flat_register fw) (sym of) ∙ sym (register_same order wide_own wide_packet known fw gw dst at.wide_at same) ∙ number.in_wide in
      let p = sum_pin near_own (flat_register fn to) x (flat_register fn r) t number.small in_old (pinned_is order near_own near_packet known.facts fn gn at.near_at.room at.near_at.flat at.near_at.pointers.0 at.near_at.all (Register to) t et) in
      let p' = sum_pin wide_own (flat_register fw to) x (flat_register fw r) t number.small in_old' (pinned_is order wide_own wide_packet known.facts fw gw at.wide_at.room at.wide_at.flat at.wide_at.pointers.0 at.wide_at.all (Register to) t et) in
      let now : flat_register hn to ≡ put_value order i fn = register_now (flat_next i fn) to (put_value order i fn) at.near_at.flat.eleven in
      let now' : flat_register hw to ≡ put_value order i fw = register_now (flat_next i fw) to (put_value order i fw) at.wide_at.flat.eleven in
      passed_by gn gw dst limit s number (guard_passes deep o.shallow bounds near_packet old (fn.slot + 1) x hn hw matches.short own_few number.small o'.near_state.flat o'.wide_state.flat (near_inside (suc j) hn hw o') (wide_inside (suc j) hn hw o') order limit (record { of = Some (Register dst); base = Some (Register to); by = Some t })
      (subst (λ z. Differs near_own t z x) (sym now) p) (subst (λ z. Differs wide_own t z x) (sym now') p') tested)

  -- what a guard tests is within its limit
  limited : (known : Known) (j n : ℕ) (s : State) (fn fw gn gw : FlatState) (dst : Reg) (limit : GuardLimit) → OldAt given deep j fn fw
      → NewAt given deep known j n s fn fw gn gw → Tested s gn gw dst → is_limited (front_at fn.slot) known.facts dst limit ≡ true → AreWithin gn gw dst limit
  unfolding guards_sum
  limited known j n s fn fw gn gw dst limit o at number tested = elim (or_cases (list_any (guarded (front_at fn.slot) dst limit) known.facts) (guards_sum (front_at fn.slot) known.facts dst limit) tested) [
    | inl itself ↦ (let fact = any_holds (guarded (front_at fn.slot) dst limit) (λ fact. Known_at fn fw gn gw fact) known.facts itself (both_known fn fw gn gw known.facts at.near_at.all at.wide_at.all) in
        let c = and_parts (is_register dst fact.0.of) (is_tested (front_at fn.slot) limit fact.0) fact.1 in
        passed_by gn gw dst limit s number (guard_passes deep o.shallow bounds near_packet old fn.slot number.x fn fw matches.short own_few number.small o.near_state.flat o.wide_state.flat (near_inside j fn fw o) (wide_inside j fn fw o) order limit fact.0
        (subst (λ z. DiffersBy near_own fact.0.by (value_in order near_own near_packet fn fact.0.base) z) (held (value_in order near_own near_packet gn) (Register dst) fact.0.of c.0 ∙ number.in_near) fact.2.0)
        (subst (λ z. DiffersBy wide_own fact.0.by z number.x) (wide_value fw fact.0.base)
        (subst (λ z. DiffersBy wide_own fact.0.by (value_in order wide_own wide_packet fw fact.0.base) z) (held (value_in order wide_own wide_packet gw) (Register dst) fact.0.of c.0 ∙ number.in_wide) fact.2.1)) c.1))
    | inr sum ↦ by_insn (insn_at is fn.slot) refl sum
  ]
    where
      by_pin : (to r : Reg) → insn_at is fn.slot ≡ Some (Alu Add W64 to (FromReg r)) → same_register r dst ≡ true → is_same known.facts dst ≡ true
          → (p : Option Term) → pinned known.facts (Register to) ≡ p
          → option_map_or (λ t. is_tested_by (front_behind (front_at fn.slot)) limit t to) p false ≡ true → AreWithin gn gw dst limit
      by_pin to r here er same None ep h = absurd (false≢true h)
      by_pin to r here er same (Some t) ep h = sum_limited known j n s fn fw gn gw to r dst limit t o at number here er same ep h

      by_sum : (i : Insn) → insn_at is fn.slot ≡ Some i → is_added (front_at fn.slot) known.facts dst limit i ≡ true → AreWithin gn gw dst limit
      by_sum (Alu Add W64 to (FromReg r)) here h =
          let a = and_parts (same_register r dst) (is_same known.facts dst && option_map_or (λ t. is_tested_by (front_behind (front_at fn.slot)) limit t to) (pinned known.facts (Register to)) false) h in
          let b = and_parts (is_same known.facts dst) (option_map_or (λ t. is_tested_by (front_behind (front_at fn.slot)) limit t to) (pinned known.facts (Register to)) false) a.1 in
          by_pin to r here a.0 b.0 (pinned known.facts (Register to)) refl b.1
      by_sum i here h = absurd (false≢true h)

      by_insn : (o : Option Insn) → insn_at is fn.slot ≡ o → option_map_or (is_added (front_at fn.slot) known.facts dst limit) o false ≡ true → AreWithin gn gw dst limit
      by_insn None eo h = absurd (false≢true h)
      by_insn (Some i) eo h = by_sum i eo h

  -- it is small, by what is known of the new program's numbers
  small_there : (known : Known) (g : FlatState) (dst : Reg) → Member (held_number known.state dst) (flat_register g dst) → is_small known.state dst ≡ true
      → flat_register g dst < 2 ^ 62
  small_there known g dst has e =
      let below = has.1.unsigned.below in
      let test = ltb-true (held_number known.state dst).unsigned.hi small_end e in
      omega arith

  no_greater : (small : Bool) (limit x : ℕ) → (small ≡ true → x < 2 ^ 62) → IsWithin (cond small (MostOfSmall limit) (Most limit)) x → x ≤ limit
  no_greater true limit x little within = within (little refl)
  no_greater false limit x little within = within

  most_goes : (known : Known) (j n : ℕ) (s : State) (fn fw gn gw : FlatState) (dst : Reg) (imm off : ℤ) → known.turns ≡ bounds.turns → OldAt given deep j fn fw
      → NewAt given deep known j n s fn fw gn gw → insn_at js s.top.slot ≡ Some (JumpIf Gt W64 dst (Imm imm) off)
      → is_limited (front_at fn.slot) known.facts dst (most_limit known.state dst (extended imm)) ≡ true
      → Extended known Kept j n (JumpIf Gt W64 dst (Imm imm) off) s fn fw gn gw
  most_goes known j n s fn fw gn gw dst imm off turns o at there tested =
      let number = tested_there known j n s fn fw gn gw Gt dst (Imm imm) off greater_number at there in
      let le = limited known j n s fn fw gn gw dst (most_limit known.state dst (extended imm)) o at number tested in
      let near_le = no_greater (is_small known.state dst) (extended imm) (flat_register gn dst) (small_there known gn dst (at.near_at.numbers dst)) le.0 in
      let wide_le = no_greater (is_small known.state dst) (extended imm) (flat_register gw dst) (small_there known gw dst (at.wide_at.numbers dst)) le.1 in
      passed_extra known j n s fn fw gn gw (JumpIf Gt W64 dst (Imm imm) off) turns at there (most_does order dst imm off gn near_le) (most_does order dst imm off gw wide_le)

  low_goes : (known : Known) (j n : ℕ) (s : State) (fn fw gn gw : FlatState) (dst : Reg) (imm off : ℤ) → known.turns ≡ bounds.turns → OldAt given deep j fn fw
      → NewAt given deep known j n s fn fw gn gw → insn_at js s.top.slot ≡ Some (JumpIf Lt W64 dst (Imm imm) off)
      → is_limited (front_at fn.slot) known.facts dst (Least (extended imm)) ≡ true → Extended known Kept j n (JumpIf Lt W64 dst (Imm imm) off) s fn fw gn gw
  low_goes known j n s fn fw gn gw dst imm off turns o at there tested =
      let number = tested_there known j n s fn fw gn gw Lt dst (Imm imm) off less_number at there in
      let le = limited known j n s fn fw gn gw dst (Least (extended imm)) o at number tested in
      passed_extra known j n s fn fw gn gw (JumpIf Lt W64 dst (Imm imm) off) turns at there (least_does order dst imm off gn le.0) (least_does order dst imm off gw le.1)

  -- ---- guards by the packet's end

  -- what a register has isn't behind that
  end_goes : (known : Known) (j n : ℕ) (s : State) (fn fw gn gw : FlatState) (dst src : Reg) (off : ℤ) → known.turns ≡ bounds.turns → OldAt given deep j fn fw
      → NewAt given deep known j n s fn fw gn gw → insn_at js s.top.slot ≡ Some (JumpIf Gt W64 dst (FromReg src) off)
      → has_end known.facts src ≡ true → list_any (register_reached (front_at fn.slot) dst) known.facts ≡ true → Extended known Kept j n (JumpIf Gt W64 dst (FromReg src) off) s fn fw gn gw
  end_goes known j n s fn fw gn gw dst src off turns o at there ends reached =
      let number = tested_there known j n s fn fw gn gw Gt dst (FromReg src) off greater_number at there in
      let fact = any_holds (register_reached (front_at fn.slot) dst) (λ fact. Known_at fn fw gn gw fact) known.facts reached (both_known fn fw gn gw known.facts at.near_at.all at.wide_at.all) in
      let c = and_parts (is_register dst fact.0.of) (is_reached (front_at fn.slot) fact.0) fact.1 in
      let le : number.x ≤ length own + head_bytes = end_passes deep o.shallow bounds near_packet old fn.slot number.x fn fw matches.short own_few number.small o.near_state.flat o.wide_state.flat (near_inside j fn fw o) (wide_inside j fn fw o) order fact.0
      (subst (λ z. DiffersBy near_own fact.0.by (value_in order near_own near_packet fn fact.0.base) z) (held (value_in order near_own near_packet gn) (Register dst) fact.0.of c.0 ∙ number.in_near) fact.2.0)
      (subst (λ z. DiffersBy wide_own fact.0.by z number.x) (wide_value fw fact.0.base)
      (subst (λ z. DiffersBy wide_own fact.0.by (value_in order wide_own wide_packet fw fact.0.base) z) (held (value_in order wide_own wide_packet gw) (Register dst) fact.0.of c.0 ∙ number.in_wide) fact.2.1)) c.1 in
      let near_end = end_is order near_own near_packet known.facts fn gn src own_short at.near_at.all ends in
      let wide_end = end_is order wide_own wide_packet known.facts fw gw src own_short at.wide_at.all ends in
      let in_near = number.in_near in
      let in_wide = number.in_wide in
      passed_extra known j n s fn fw gn gw (JumpIf Gt W64 dst (FromReg src) off) turns at there (end_does order dst src off gn (omega arith)) (end_does order dst src off gw (omega arith))

  -- a constant isn't
  fixed_goes : (known : Known) (j n : ℕ) (s : State) (fn fw gn gw : FlatState) (dst : Reg) (imm off : ℤ) → known.turns ≡ bounds.turns → OldAt given deep j fn fw
      → NewAt given deep known j n s fn fw gn gw → insn_at js s.top.slot ≡ Some (JumpIf Lt W64 dst (Imm imm) off)
      → end_reached (front_at fn.slot) known.facts dst (extended imm) ≡ true → Extended known Kept j n (JumpIf Lt W64 dst (Imm imm) off) s fn fw gn gw
  fixed_goes known j n s fn fw gn gw dst imm off turns o at there tested =
      let c = and_parts (has_end known.facts dst) (list_any (number_reached (front_at fn.slot) (extended imm)) known.facts) tested in
      let fact = any_holds (number_reached (front_at fn.slot) (extended imm)) (λ fact. Known_at fn fw gn gw fact) known.facts c.1 (both_known fn fw gn gw known.facts at.near_at.all at.wide_at.all) in
      let le = by_number fact.0 fact.2 (of_number (extended imm) fact.0) refl fact.1 in
      let near_end = end_is order near_own near_packet known.facts fn gn dst own_short at.near_at.all c.0 in
      let wide_end = end_is order wide_own wide_packet known.facts fw gw dst own_short at.wide_at.all c.0 in
      passed_extra known j n s fn fw gn gw (JumpIf Lt W64 dst (Imm imm) off) turns at there (least_does order dst imm off gn (omega arith)) (least_does order dst imm off gw (omega arith))
    where
      by_number : (fact : Fact) → Known_at fn fw gn gw fact → (b : Option Fact) → of_number (extended imm) fact ≡ b → option_map_or (is_reached (front_at fn.slot)) b false ≡ true → extended imm ≤ length own + head_bytes
      by_number fact h None eb r = absurd (false≢true r)
      by_number fact h (Some b) eb r =
          end_passes deep o.shallow bounds near_packet old fn.slot (extended imm) fn fw matches.short own_few (modulo_below imm) o.near_state.flat o.wide_state.flat (near_inside j fn fw o) (wide_inside j fn fw o) order b
          (of_number_is near_own (value_in order near_own near_packet fn) (value_in order near_own near_packet gn) (extended imm) fact b refl (modulo_below imm) h.0 eb)
          (subst (λ z. DiffersBy wide_own b.by z (extended imm)) (wide_value fw b.base)
          (of_number_is wide_own (value_in order wide_own wide_packet fw) (value_in order wide_own wide_packet gw) (extended imm) fact b refl (modulo_below imm) h.1 eb)) r

  -- ---- guards of either kind

  least_goes : (known : Known) (j n : ℕ) (s : State) (fn fw gn gw : FlatState) (dst : Reg) (imm off : ℤ) → known.turns ≡ bounds.turns → OldAt given deep j fn fw
      → NewAt given deep known j n s fn fw gn gw → insn_at js s.top.slot ≡ Some (JumpIf Lt W64 dst (Imm imm) off)
      → (end_reached (front_at fn.slot) known.facts dst (extended imm) || is_limited (front_at fn.slot) known.facts dst (Least (extended imm))) ≡ true → Extended known Kept j n (JumpIf Lt W64 dst (Imm imm) off) s fn fw gn gw
  least_goes known j n s fn fw gn gw dst imm off turns o at there tested = elim (or_cases (end_reached (front_at fn.slot) known.facts dst (extended imm)) (is_limited (front_at fn.slot) known.facts dst (Least (extended imm))) tested) [
    | inl fixed ↦ fixed_goes known j n s fn fw gn gw dst imm off turns o at there fixed
    | inr low ↦ low_goes known j n s fn fw gn gw dst imm off turns o at there low
  ]

  guard_goes : (known : Known) (j n : ℕ) (s : State) (fn fw gn gw : FlatState) (m : Insn) → known.turns ≡ bounds.turns → OldAt given deep j fn fw
      → NewAt given deep known j n s fn fw gn gw → insn_at js s.top.slot ≡ Some m → passes (front_at fn.slot) known m ≡ true
      → Extended known Kept j n m s fn fw gn gw
  guard_goes known j n s fn fw gn gw m turns o at there e = by_kind (guard_is (front_at fn.slot) known m e)
    where
      by_kind : IsMostGuard (front_at fn.slot) known m ⊎ (IsEndGuard (front_at fn.slot) known.facts m ⊎ IsLeastGuard (front_at fn.slot) known.facts m)
          → Extended known Kept j n m s fn fw gn gw
      by_kind (inl g) = subst (λ m. Extended known Kept j n m s fn fw gn gw) (sym g.is) (most_goes known j n s fn fw gn gw g.dst g.imm g.off turns o at (there ∙ ap Some g.is) g.tested)
      by_kind (inr (inl g)) = subst (λ m. Extended known Kept j n m s fn fw gn gw) (sym g.is) (end_goes known j n s fn fw gn gw g.dst g.src g.off turns o at (there ∙ ap Some g.is) g.ends g.reached)
      by_kind (inr (inr g)) = subst (λ m. Extended known Kept j n m s fn fw gn gw) (sym g.is) (least_goes known j n s fn fw gn gw g.dst g.imm g.off turns o at (there ∙ ap Some g.is) g.tested)

  -- ---- counters

  enough_counted : (a b : Bool) → b ≡ true → cond {A = ℕ} a 1 0 ≤ cond (a && b) 1 0
  enough_counted true b e = subst (λ b. 1 ≤ cond {A = ℕ} b 1 0) (sym e) (omega arith)
  enough_counted false b e = omega arith

  -- a state is one turn more of its slot
  pub turn_advances : (j : ℕ) (fn fw : FlatState) → OldAt given deep j fn fw → Advances (Some fn.slot) (made_before given deep j) (made_before given deep (suc j))
  turn_advances j fn fw o head =
      let now = turn_made given deep deep j fn fw (omega arith) o head in
      let one = enough_counted (fn.slot == head) (length fn.returns == deep) (eq-eqb (length fn.returns) deep o.near_deep) in
      omega arith

  counted_here : (j : ℕ) (fn fw : FlatState) → OldAt given deep j fn fw → counted fn.slot deep fn ≡ 1
  counted_here j fn fw o = cond-true (fn.slot == fn.slot && length fn.returns == deep) 1 0 (here (fn.slot == fn.slot) (eq-eqb fn.slot fn.slot refl) (eq-eqb (length fn.returns) deep o.near_deep))
    where
      here : (a : Bool) → a ≡ true → {b : Bool} → b ≡ true → (a && b) ≡ true
      here true ea eb = eb
      here false ea eb = absurd (false≢true ea)

  -- of the turns that are to be made, the one in front of which the old program stands is left
  turn_left : (j v : ℕ) (fn fw : FlatState) → OldAt given deep j fn fw → given.turns ≤ bounds.turns → bounds.turns ≤ v + made_before given deep j fn.slot → 1 ≤ v
  turn_left j v fn fw o within counts =
      let few : made_before given deep (suc j) fn.slot ≤ given.turns = subst (λ n. turns_in_call (near bounds.padded) old (zero_start (near bounds.padded) own) fn.slot n j ≤ given.turns) o.near_deep (near_ends.few j fn o.near_before o.near_run) in
      let now = turn_made given deep deep j fn fw (omega arith) o fn.slot in
      let one = counted_here j fn fw o in
      omega arith

  turn_goes : (known : Known) (j n : ℕ) (s : State) (fn fw gn gw : FlatState) (dst : Reg) (off : ℤ) → known.turns ≡ bounds.turns → OldAt given deep j fn fw → NewAt given deep known j n s fn fw gn gw → insn_at js s.top.slot ≡ Some (JumpIf Eq W64 dst (Imm (pos zero)) off)
      → given.turns ≤ bounds.turns → bounds.turns ≤ flat_register gn dst + made_before given deep j fn.slot → Extended known Kept j n (JumpIf Eq W64 dst (Imm (pos zero)) off) s fn fw gn gw
  turn_goes known j n s fn fw gn gw dst off turns o at there within counts =
      let m : Insn = JumpIf Eq W64 dst (Imm (pos zero)) off in
      let y = steps_on order js new_valid context bytes short never n s m at.run there (test_turns m Eq W64 dst (Imm (pos zero)) off refl) in
      let a = answers order s y.0 Eq W64 dst (Imm (pos zero)) off (does_there order js new_valid context bytes short never s y.0 m there y.1) in
      let dn = answers_same order js new_valid context bytes short never (near false) n s gn Eq W64 dst (Imm (pos zero)) a at.run at.near_fits in
      let dw = answers_same order js new_valid context bytes short never (wide false) n s gw Eq W64 dst (Imm (pos zero)) a at.run at.wide_fits in
      let left = turn_left j (flat_register gn dst) fn fw o within counts in
      let fails : jumps W64 Eq (flat_register gn dst) (extended (pos zero)) ≡ false = differ (flat_register gn dst) left in
      passed_extra known j n s fn fw gn gw m turns at there (test_falls order Eq W64 dst (Imm (pos zero)) off gn fails) (test_falls order Eq W64 dst (Imm (pos zero)) off gw (dw ∙ sym dn ∙ fails))
    where
      differ : (x : ℕ) → 1 ≤ x → jumps W64 Eq x (extended (pos zero)) ≡ false
      differ x le = by_test (x == 0) refl
        where
          by_test : (b : Bool) → (x == 0) ≡ b → (x == 0) ≡ false
          by_test false e = e
          by_test true e = let z = eqb-true x 0 e in absurd (omega arith)

  -- ---- the test of what a function gave back

  barred_goes : (known : Known) (j n : ℕ) (s : State) (fn fw gn gw : FlatState) (dst : Reg) (imm off : ℤ) → known.turns ≡ bounds.turns → NewAt given deep known j n s fn fw gn gw → insn_at js s.top.slot ≡ Some (JumpIf Eq W64 dst (Imm imm) off) → tests_barred known.barred (JumpIf Eq W64 dst (Imm imm) off) ≡ true
      → Extended known Kept j n (JumpIf Eq W64 dst (Imm imm) off) s fn fw gn gw
  barred_goes known j n s fn fw gn gw dst imm off turns at there tests =
      let m : Insn = JumpIf Eq W64 dst (Imm imm) off in
      let c = and_parts (register_number dst == 0) (is_this known.barred (extended imm)) tests in
      let y = steps_on order js new_valid context bytes short never n s m at.run there (test_turns m Eq W64 dst (Imm imm) off refl) in
      let a = answers order s y.0 Eq W64 dst (Imm imm) off (does_there order js new_valid context bytes short never s y.0 m there y.1) in
      let dn = answers_same order js new_valid context bytes short never (near false) n s gn Eq W64 dst (Imm imm) a at.run at.near_fits in
      let dw = answers_same order js new_valid context bytes short never (wide false) n s gw Eq W64 dst (Imm imm) a at.run at.wide_fits in
      let fails : jumps W64 Eq (flat_register gn dst) (extended imm) ≡ false = differ (flat_register gn dst == extended imm) refl (λ same. at.unlike (extended imm) (this_is known.barred (extended imm) c.1) (ap (λ r. get_or gn.registers r 0) (sym (eqb-true (register_number dst) 0 c.0)) ∙ same)) in
      passed_extra known j n s fn fw gn gw m turns at there (test_falls order Eq W64 dst (Imm imm) off gn fails) (test_falls order Eq W64 dst (Imm imm) off gw (dw ∙ sym dn ∙ fails))
    where
      differ : (b : Bool) → (flat_register gn dst == extended imm) ≡ b → (flat_register gn dst ≡ extended imm → ⊥) → (flat_register gn dst == extended imm) ≡ false
      differ false e out = e
      differ true e out = absurd (out (eqb-true (flat_register gn dst) (extended imm) e))

  -- ---- extra instructions

  pub one_extra : (known : Known) (change : Change) (j n : ℕ) (s : State) (fn fw gn gw : FlatState) (m : Insn) → known.turns ≡ bounds.turns → OldAt given deep j fn fw → NewAt given deep known j n s fn fw gn gw → insn_at js s.top.slot ≡ Some m
      → (has_turn known.counters fn.slot m ≡ true → given.turns ≤ bounds.turns) → extra (front_at fn.slot) known m ≡ Some change → Extended known change j n m s fn fw gn gw
  unfolding extra
  one_extra known change j n s fn fw gn gw m turns o at there within e = by_pass (passes (front_at fn.slot) known m || (has_turn known.counters fn.slot m || tests_barred known.barred m)) refl e
    where
      by_barred : (m : Insn) → insn_at js s.top.slot ≡ Some m → tests_barred known.barred m ≡ true → Extended known Kept j n m s fn fw gn gw
      by_barred (JumpIf Eq W64 dst (Imm imm) off) there h = barred_goes known j n s fn fw gn gw dst imm off turns at there h
      by_barred m there h = absurd (false≢true h)

      by_pass : (b : Bool) → (passes (front_at fn.slot) known m || (has_turn known.counters fn.slot m || tests_barred known.barred m)) ≡ b → cond b (Some Kept) (makes m) ≡ Some change → Extended known change j n m s fn fw gn gw
      by_pass true eb h = subst (λ change. Extended known change j n m s fn fw gn gw) (same_Some Kept change h) (elim (or_cases (passes (front_at fn.slot) known m) (has_turn known.counters fn.slot m || tests_barred known.barred m) eb) [
        | inl guard ↦ guard_goes known j n s fn fw gn gw m turns o at there guard
        | inr other ↦ elim (or_cases (has_turn known.counters fn.slot m) (tests_barred known.barred m) other) [
          | inr bars ↦ by_barred m there bars
          | inl turn ↦ (let t = test_is known.turns (made_before given deep j) (value_in order near_own near_packet gn) fn.slot known.counters m at.counted turn in
              subst (λ m. Extended known Kept j n m s fn fw gn gw) (sym t.is) (turn_goes known j n s fn fw gn gw t.dst t.off turns o at (there ∙ ap Some t.is) (within turn) (subst (λ k. k ≤ flat_register gn t.dst + made_before given deep j fn.slot) turns t.counts)))
        ]
      ])
      by_pass false eb h =
          let x = option_map_some (λ h. Made h m) (made_in m) change h in
          subst (λ change. Extended known change j n m s fn fw gn gw) x.2 (made_extra known j n s fn fw gn gw m x.0 turns at there x.1)
