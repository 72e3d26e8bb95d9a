-- Each instruction of the old program that neither calls nor ends a function is followed by one of the new one's.
use Rattle.std.proofs.Common.{◌≡◌, ℕ, suc, ◌+◌, ◌*◌, ◌^◌, ◌<◌, ◌≤◌, inl, inr, refl, sym, ap, ◌∙◌, subst, arith, Bool, true, false, length, Option, Some, None, cond}
use Rattle.std.specs.Prelude.{ℤ, ◌↔◌, IsTrue, not, ◌&&◌, ◌||◌, option_map}
use Rattle.std.specs.Option.{option_map_or, option_or}
use Rattle.std.proofs.lemmas.Bool.{and_parts, or_cases, cond-true, cond-false, false≢true}
use Rattle.std.proofs.lemmas.Option.{none-some, same_Some, option_and_then_some}
use Rattle.bpf_insn.specs.Arithmetic.{jumps}
use Rattle.bpf_insn.specs.Image.{HasEncoding}
use Rattle.bpf_insn.specs.Instruction.{Instructions, slot_count, insn_at, target}
use Rattle.bpf_insn.specs.Effects.{is_frame_pointer}
use Rattle.bpf_insn.specs.declared.instruction.Reg.{Reg}
use Rattle.bpf_insn.specs.declared.instruction.Reg.TheVariants.{R0}
use Rattle.bpf_insn.specs.declared.instruction.Operand.{Operand}
use Rattle.bpf_insn.specs.declared.instruction.Operand.TheVariants.{Reg as FromReg}
use Rattle.bpf_insn.specs.declared.instruction.Width.{Width}
use Rattle.bpf_insn.specs.declared.instruction.Width.TheVariants.{W64}
use Rattle.bpf_insn.specs.declared.instruction.Cond.{Cond}
use Rattle.bpf_insn.specs.declared.instruction.AluOp.TheVariants.{Mov}
use Rattle.bpf_insn.specs.declared.instruction.Insn.{Insn}
use Rattle.bpf_insn.specs.declared.instruction.Insn.TheVariants.{Alu, Load, LoadSx, Store, StoreImm, Atomic, Ja, JaLong, JumpIf, CallLocal, Exit}
use Rattle.bpf_semantics.specs.Flat.{FlatState, flat_register, flat_operand, flat_at, flat_does}
use Rattle.bpf_semantics.proofs.StateLemmas.{cond_option, encoding_at, option_map_some}
use Rattle.bpf_kept.specs.Far.{near, wide}
use Rattle.bpf_kept.specs.Meaning.{most_for_one}
use Rattle.bpf_kept.specs.declared.notes.Holder.TheVariants.{Register}
use Rattle.bpf_kept.specs.declared.notes.Term.{Term}
use Rattle.bpf_kept.specs.declared.notes.Change.{Change}
use Rattle.bpf_kept.specs.declared.notes.Change.TheVariants.{Kept}
use Rattle.bpf_kept.specs.Terms.{Packet, Facts, value_in, zero_term, frame_offset}
use Rattle.bpf_kept.specs.Rules.{Known, same_register, put_into, loads_alike, is_widened, is_framed, turned_test, are_offsets, are, by_order, undirected, is_jump, is_kept, keeps, put_by, pin_of, put, puts, puts_slot, stores_alike, reached, stores, paired}
use Rattle.bpf_kept.specs.Ways.{is_dead}
use Rattle.bpf_kept.specs.Matching.{most_extras, most_at_start, facts_at, arrives, led, may_fall, may_lead, falls, leads_to, leads, goes}
use Rattle.bpf_kept.proofs.HoldsLaw.{register_is}
use Rattle.bpf_kept.proofs.PutLaw.{AtOnce}
use Rattle.bpf_kept.proofs.BothLaw.{plain_is, put_both}
use Rattle.bpf_kept.proofs.WayLaw.{widened_moved, jump_alive, test_alive}
use Rattle.bpf_kept.proofs.TestLaw.{same_test, order_test}
use Rattle.bpf_kept.proofs.CountLaw.{kept_counts}
use Rattle.bpf_kept.proofs.AheadLaw.{goes_on}
use Rattle.bpf_kept.proofs.StoreLaw.{Paired, at_same, kept_there, both_put, slots_put}
use Rattle.bpf_kept.proofs.AddressLaw.{stores_there}
use Rattle.bpf_kept.proofs.Simulation.{more, none_first, program, not_exit, zero_plain, answers, test_jumps, test_jumps_back, test_falls, jump_does, jump_back, test_back, jump_turns, test_turns, put_turns, does_there, steps_on, answers_same, same_tests}
use Rattle.bpf_kept.proofs.Setting.{Setting, runs}
use Rattle.bpf_kept.proofs.Beside.{new_next, near_does, old_next, near_own, wide_own, near_packet, wide_packet, near_leaves, wide_leaves, made_before}
use Rattle.bpf_kept.proofs.Waiting.{Stays, step_waits}
use Rattle.bpf_kept.proofs.Extras.{turn_advances}
use Rattle.bpf_kept.proofs.Arrivals.{Ready, known_there, arrived}

-- a store is the same where it is the same but for where it leads
abbrev is_store : Insn → Bool
is_store (Store size dst off src) = true
is_store (StoreImm size dst off imm) = true
is_store (Atomic wide op dst off src) = true
is_store i = false

undirected_store : (i : Insn) → is_store (undirected i) ≡ is_store i
undirected_store (Ja off) = refl
undirected_store (JaLong off) = refl
undirected_store (JumpIf cond width dst src off) = refl
undirected_store (CallLocal off) = refl
undirected_store i = refl

store_plain : (i : Insn) → is_store i ≡ true → undirected i ≡ i
store_plain (Store size dst off src) e = refl
store_plain (StoreImm size dst off imm) e = refl
store_plain (Atomic wide op dst off src) e = refl
store_plain i e = absurd (false≢true e)

store_again : (i moved : Insn) → is_store i ≡ true → undirected moved ≡ undirected i → moved ≡ i
store_again i moved e same =
    let there : is_store moved ≡ true = sym (undirected_store moved) ∙ ap is_store same ∙ undirected_store i ∙ e in
    sym (store_plain moved there) ∙ same ∙ store_plain i e

module _ (given : Setting) (deep : ℕ) where
  open given use {order, is, js, notes, bounds, states, old_valid, new_valid, matches, own, own_is, context, bytes, long, never, v, k, l, near_ends, wide_ends}

  abbrev pub old : Instructions
  old = program order is

  abbrev pub new : Instructions
  new = program order js

  short : length context < 2 ^ 32
  short = subst (λ n. n < 2 ^ 32) (sym long) matches.short

  -- in front of the old instruction itself, and what stands for it
  pub record At (j : ℕ) (i moved : Insn) : Type 0 where
    pub ready : Ready given deep j
    pub body : ready.note.extras ≡ 0
    pub here : insn_at is ready.fn.slot ≡ Some i
    pub there : insn_at js ready.state.top.slot ≡ Some moved

  pub few_at : (j : ℕ) (i moved : Insn) (at : At j i moved) → at.ready.n ≤ most_at_start + most_for_one * j
  few_at j i moved at = let few = at.ready.few in let body = at.body in omega arith

  -- what is known there
  abbrev pub known : {j : ℕ} → Ready given deep j → Known
  known q = known_there given deep q

  -- both put a number into a register or a slot, or store the same
  by_pairs : (j : ℕ) (i moved : Insn) (at : At j i moved) (change : Change) → Paired order (near_own given deep) (near_packet given deep) (known at.ready) change i moved at.ready.fn at.ready.gn → Paired order (wide_own given deep) (wide_packet given deep) (known at.ready) change i moved at.ready.fw at.ready.gw
      → arrives notes (known at.ready) change (Some at.ready.fn.slot) (at.ready.fn.slot + slot_count i) most_extras (at.ready.state.top.slot + slot_count moved) ≡ true → Ready given deep (suc j)
  by_pairs j i moved at change a b goes =
      let q = at.ready in
      let o = q.old_at in
      let o' = old_next given deep j q.fn q.fw a.old b.old i o at.here (zero_plain (near bounds.padded) order i q.fn a.old a.old_does) (zero_plain (wide bounds.padded) order i q.fw b.old b.old_does) (not_exit order i q.fn a.old a.old_does) a.old_returns b.old_returns
      (b.old_slot ∙ ap (λ z. z + slot_count i) o.slots_same ∙ sym a.old_slot) in
      let x = new_next given deep (known q) j q.n q.state q.fn q.fw q.gn q.gw a.new b.new moved q.new_at at.there a.new_does b.new_does a.new_returns b.new_returns in
      let to : x.0.top.slot ≡ q.state.top.slot + slot_count moved = sym x.2.near_fits.slot_is ∙ a.new_slot ∙ ap (λ z. z + slot_count moved) q.new_at.near_fits.slot_is in
      (arrived given deep (known q) change (Some q.fn.slot) (suc j) (suc q.n) (q.fn.slot + slot_count i) most_extras (q.state.top.slot + slot_count moved) x.0 a.old b.old a.new b.new goes to a.old_slot (more j q.n (few_at j i moved at)) q.promise q.promises
      (step_waits given deep j q.promise q.fn q.fw q.gn q.gw a.old b.old a.new b.new o (record { returns = a.old_returns; unseen = a.unseen }) (record { returns = b.old_returns; unseen = b.unseen }) (record { returns = a.new_returns; unseen = a.new_unseen }) (record { returns = b.new_returns; unseen = b.new_unseen }) q.waits) o'
      (record {
        run = x.2.run;
        near_level = x.2.near_level;
        wide_level = x.2.wide_level;
        near_behind = a.behind;
        wide_behind = b.behind;
        near_fits = x.2.near_fits;
        wide_fits = x.2.wide_fits;
        counts = λ want e. kept_counts (known q) (made_before given deep j) (made_before given deep (suc j)) (Some q.fn.slot) change (value_in order (near_own given deep) (near_packet given deep) q.gn) (value_in order (near_own given deep) (near_packet given deep) a.new) want a.unmade (turn_advances given deep j q.fn q.fw o) a.spared q.new_at.counted e;
        unlike = λ z e b same. q.new_at.unlike z b (sym (a.spared (Register R0) e) ∙ same);
        isolated = x.2.isolated;
      })).0

  moves : (f : FlatState) (slot own : ℕ) (packet : Packet) → Stays own packet f (flat_at slot f)
  moves f slot own packet = record { returns = refl; unseen = λ a small out. refl }

  -- both go elsewhere, and nothing else
  by_moves : (j : ℕ) (i moved : Insn) (at : At j i moved) (x y : ℕ) → (i ≡ Exit → ⊥) → flat_does order i at.ready.fn ≡ Some (flat_at x at.ready.fn) → flat_does order i at.ready.fw ≡ Some (flat_at x at.ready.fw)
      → flat_does order moved at.ready.gn ≡ Some (flat_at y at.ready.gn) → flat_does order moved at.ready.gw ≡ Some (flat_at y at.ready.gw) → arrives notes (known at.ready) Kept (Some at.ready.fn.slot) x most_extras y ≡ true → Ready given deep (suc j)
  by_moves j i moved at x y other en ew dn dw goes =
      let q = at.ready in
      let new_at = q.new_at in
      let hn : FlatState = flat_at x q.fn in
      let hw : FlatState = flat_at x q.fw in
      let kn : FlatState = flat_at y q.gn in
      let kw : FlatState = flat_at y q.gw in
      let o' = old_next given deep j q.fn q.fw hn hw i q.old_at at.here (zero_plain (near bounds.padded) order i q.fn hn en) (zero_plain (wide bounds.padded) order i q.fw hw ew) other refl refl refl in
      let z = new_next given deep (known q) j q.n q.state q.fn q.fw q.gn q.gw kn kw moved new_at at.there dn dw refl refl in
      (arrived given deep (known q) Kept (Some q.fn.slot) (suc j) (suc q.n) x most_extras y z.0 hn hw kn kw goes (sym z.2.near_fits.slot_is) refl (more j q.n (few_at j i moved at)) q.promise q.promises
      (step_waits given deep j q.promise q.fn q.fw q.gn q.gw hn hw kn kw q.old_at (moves q.fn x (near_own given deep) (near_packet given deep)) (moves q.fw x (wide_own given deep) (wide_packet given deep)) (moves q.gn y (near_own given deep) (near_packet given deep)) (moves q.gw y (wide_own given deep) (wide_packet given deep)) q.waits) o'
      (record {
        run = z.2.run;
        near_level = z.2.near_level;
        wide_level = z.2.wide_level;
        near_behind = kept_there order (near_own given deep) (near_packet given deep) (known q) q.fn q.gn x y new_at.near_at;
        wide_behind = kept_there order (wide_own given deep) (wide_packet given deep) (known q) q.fw q.gw x y new_at.wide_at;
        near_fits = z.2.near_fits;
        wide_fits = z.2.wide_fits;
        counts = λ want e. kept_counts (known q) (made_before given deep j) (made_before given deep (suc j)) (Some q.fn.slot) Kept (value_in order (near_own given deep) (near_packet given deep) q.gn) (value_in order (near_own given deep) (near_packet given deep) kn) want (λ want h. false≢true h) (turn_advances given deep j q.fn q.fw q.old_at) (λ h e. at_same order (near_own given deep) (near_packet given deep) y q.gn (Some h)) new_at.counted e;
        unlike = λ z e b same. new_at.unlike z b same;
        isolated = z.2.isolated;
      })).0

  -- where a jump leads that is noted
  record Led (known : Known) (i moved : Insn) (slot new_slot : ℕ) : Type 0 where
    to : ℕ
    to_is : led slot i ≡ Some to
    new_to : ℕ
    new_is : led new_slot moved ≡ Some new_to
    goes : arrives notes known Kept (Some slot) to most_extras new_to ≡ true

  led_there : (known : Known) (i moved : Insn) (slot new_slot to : ℕ) → led slot i ≡ Some to → is_dead known i moved true ≡ false
      → leads notes known Kept slot new_slot i moved ≡ true → Led known i moved slot new_slot
  led_there known i moved slot new_slot to e alive h =
      let may : may_lead known slot i moved ≡ Some to = cond-false (is_dead known i moved true) None (led slot i) alive ∙ e in
      by_new (led new_slot moved) refl (ap (λ o. option_map_or (leads_to notes known Kept slot new_slot moved) o true) (sym may) ∙ h)
    where
      by_new : (o : Option ℕ) → led new_slot moved ≡ o → option_map_or (arrives notes known Kept (Some slot) to most_extras) o false ≡ true → Led known i moved slot new_slot
      by_new None eo h = absurd (false≢true h)
      by_new (Some new_to) eo h = record { to = to; to_is = e; new_to = new_to; new_is = eo; goes = h }

  by_jumps : (j : ℕ) (i moved : Insn) (at : At j i moved) → is_jump i ≡ true → is_jump moved ≡ true → leads notes (known at.ready) Kept at.ready.fn.slot at.ready.state.top.slot i moved ≡ true → Ready given deep (suc j)
  by_jumps j i moved at jumps_is new_jumps goes =
      let q = at.ready in
      let o = q.old_at in
      let other = jump_turns i jumps_is in
      let g = goes_on (near bounds.padded) old old_valid own (runs given) v k near_ends j q.fn i o.near_run o.near_before at.here other in
      let to = jump_back (near bounds.padded) order i q.fn g.0 jumps_is (near_does given q.fn g.0 i at.here g.1) in
      let lead = led_there (known q) i moved q.fn.slot q.state.top.slot to.0 to.1 (jump_alive (known q) i moved jumps_is) goes in
      by_moves j i moved at lead.to lead.new_to other (jump_does order i q.fn lead.to jumps_is lead.to_is) (jump_does order i q.fw lead.to jumps_is (ap (λ z. led z i) o.slots_same ∙ lead.to_is))
      (jump_does order moved q.gn lead.new_to new_jumps (ap (λ z. led z moved) q.new_at.near_fits.slot_is ∙ lead.new_is)) (jump_does order moved q.gw lead.new_to new_jumps (ap (λ z. led z moved) q.new_at.wide_fits.slot_is ∙ lead.new_is)) lead.goes

  -- tests that answer alike
  by_tests : (j : ℕ) (cond other : Cond) (width : Width) (dst : Reg) (src : Operand) (off new_off : ℤ) (at : At j (JumpIf cond width dst src off) (JumpIf other width dst src new_off))
      → ((start : ℕ) (packet : Packet) (f g : FlatState) → AtOnce order start packet (known at.ready) f g → jumps width other (flat_register g dst) (flat_operand g src) ≡ jumps width cond (flat_register f dst) (flat_operand f src))
      → goes notes (known at.ready) at.ready.fn.slot at.ready.state.top.slot (JumpIf cond width dst src off) (JumpIf other width dst src new_off) Kept ≡ true → Ready given deep (suc j)
  by_tests j cond other width dst src off new_off at agree goes_is =
      let y = steps_on order js new_valid context bytes short never q.n q.state moved q.new_at.run at.there (test_turns moved other width dst src new_off refl) in
      let a = answers order q.state y.0 other width dst src new_off (does_there order js new_valid context bytes short never q.state y.0 moved at.there y.1) in
      let dn = answers_same order js new_valid context bytes short never (near false) q.n q.state q.gn other width dst src a q.new_at.run q.new_at.near_fits in
      let dw = answers_same order js new_valid context bytes short never (wide false) q.n q.state q.gw other width dst src a q.new_at.run q.new_at.wide_fits in
      let on : jumps width cond (flat_register q.fn dst) (flat_operand q.fn src) ≡ a.taken = sym (agree (near_own given deep) (near_packet given deep) q.fn q.gn q.new_at.near_at) ∙ dn in
      let ow : jumps width cond (flat_register q.fw dst) (flat_operand q.fw src) ≡ a.taken = sym (agree (wide_own given deep) (wide_packet given deep) q.fw q.gw q.new_at.wide_at) ∙ dw in
      by_way a.taken on ow dn dw
    where
      q : Ready given deep j
      q = at.ready

      i : Insn
      i = JumpIf cond width dst src off

      moved : Insn
      moved = JumpIf other width dst src new_off

      turns : i ≡ Exit → ⊥
      turns = test_turns i cond width dst src off refl

      parts : (falls notes (known q) Kept q.fn.slot q.state.top.slot i moved ≡ true) × (leads notes (known q) Kept q.fn.slot q.state.top.slot i moved ≡ true)
      parts = and_parts (falls notes (known q) Kept q.fn.slot q.state.top.slot i moved) (leads notes (known q) Kept q.fn.slot q.state.top.slot i moved) goes_is

      -- the way that both go isn't dead
      alive : (b : Bool) → jumps width cond (flat_register q.fn dst) (flat_operand q.fn src) ≡ b → jumps width other (flat_register q.gn dst) (flat_operand q.gn src) ≡ b
          → is_dead (known q) i moved b ≡ false
      alive b on dn = test_alive order (near_own given deep) (near_packet given deep) (known q) q.fn q.gn q.new_at.near_at cond other width dst src off new_off b on dn

      goes_behind : is_dead (known q) i moved false ≡ false
          → arrives notes (known q) Kept (Some q.fn.slot) (q.fn.slot + 1) most_extras (q.state.top.slot + 1) ≡ true
      goes_behind e =
          sym (cond-true (may_fall (known q) i moved) (arrives notes (known q) Kept (Some q.fn.slot) (q.fn.slot + 1) most_extras (q.state.top.slot + 1)) true (ap not e)) ∙ parts.0

      by_way : (b : Bool) → jumps width cond (flat_register q.fn dst) (flat_operand q.fn src) ≡ b → jumps width cond (flat_register q.fw dst) (flat_operand q.fw src) ≡ b
          → jumps width other (flat_register q.gn dst) (flat_operand q.gn src) ≡ b → jumps width other (flat_register q.gw dst) (flat_operand q.gw src) ≡ b → Ready given deep (suc j)
      by_way true on ow dn dw =
          let o = q.old_at in
          let g = goes_on (near bounds.padded) old old_valid own (runs given) v k near_ends j q.fn i o.near_run o.near_before at.here turns in
          let jumped = test_jumps_back order cond width dst src off q.fn g.0 on (test_back (near bounds.padded) order i cond width dst src off q.fn g.0 refl (near_does given q.fn g.0 i at.here g.1)) in
          let to = option_map_some (λ slot. flat_at slot q.fn) (target q.fn.slot off) g.0 jumped in
          let lead = led_there (known q) i moved q.fn.slot q.state.top.slot to.0 to.1 (alive true on dn) parts.1 in
          by_moves j i moved at lead.to lead.new_to turns
          (test_jumps order cond width dst src off q.fn lead.to on lead.to_is) (test_jumps order cond width dst src off q.fw lead.to ow (ap (λ z. target z off) o.slots_same ∙ lead.to_is))
          (test_jumps order other width dst src new_off q.gn lead.new_to dn (ap (λ z. target z new_off) q.new_at.near_fits.slot_is ∙ lead.new_is)) (test_jumps order other width dst src new_off q.gw lead.new_to dw (ap (λ z. target z new_off) q.new_at.wide_fits.slot_is ∙ lead.new_is))
          lead.goes
      by_way false on ow dn dw =
          by_moves j i moved at (q.fn.slot + 1) (q.state.top.slot + 1) turns
          (test_falls order cond width dst src off q.fn on) (test_falls order cond width dst src off q.fw ow ∙ ap (λ z. Some (flat_at (z + 1) q.fw)) q.old_at.slots_same)
          (test_falls order other width dst src new_off q.gn dn ∙ ap (λ z. Some (flat_at (z + 1) q.gn)) q.new_at.near_fits.slot_is) (test_falls order other width dst src new_off q.gw dw ∙ ap (λ z. Some (flat_at (z + 1) q.gw)) q.new_at.wide_fits.slot_is)
          (goes_behind (alive false on dn))

  -- what neither changes
  by_kept : (j : ℕ) (i moved : Insn) (at : At j i moved) (same : Bool) → IsTrue same ↔ (undirected moved ≡ undirected i) → keeps (facts_at at.ready.note) same i moved ≡ true
      → goes notes (known at.ready) at.ready.fn.slot at.ready.state.top.slot i moved Kept ≡ true → Ready given deep (suc j)
  unfolding keeps
  by_kept j i moved at same same_is kept goes_is = elim (or_cases (is_jump i && is_jump moved) ((same && is_kept facts i) || by_order facts i moved) kept) [
    | inl jumped ↦ (let h = and_parts (is_jump i) (is_jump moved) jumped in by_jumps j i moved at h.0 h.1 parts.1)
    | inr rest ↦ elim (or_cases (same && is_kept facts i) (by_order facts i moved) rest) [
      | inl again ↦ (let h = and_parts same (is_kept facts i) again in by_same i moved at (same_is.0 h.0) h.1 goes_is)
      | inr ordered ↦ by_ordered i moved at ordered goes_is
    ]
  ]
    where
      facts : Facts
      facts = facts_at at.ready.note

      parts : (falls notes (known at.ready) Kept at.ready.fn.slot at.ready.state.top.slot i moved ≡ true) × (leads notes (known at.ready) Kept at.ready.fn.slot at.ready.state.top.slot i moved ≡ true)
      parts = and_parts (falls notes (known at.ready) Kept at.ready.fn.slot at.ready.state.top.slot i moved) (leads notes (known at.ready) Kept at.ready.fn.slot at.ready.state.top.slot i moved) goes_is

      by_same : (i moved : Insn) (at : At j i moved) → undirected moved ≡ undirected i → is_kept (facts_at at.ready.note) i ≡ true → goes notes (known at.ready) at.ready.fn.slot at.ready.state.top.slot i moved Kept ≡ true → Ready given deep (suc j)
      by_same (JumpIf cond width dst src off) moved at e h goes_is =
          let t = same_tests moved cond width dst src e in
          subst (λ m. (at : At j (JumpIf cond width dst src off) m) → is_kept (facts_at at.ready.note) (JumpIf cond width dst src off) ≡ true → goes notes (known at.ready) at.ready.fn.slot at.ready.state.top.slot (JumpIf cond width dst src off) m Kept ≡ true → Ready given deep (suc j)) (sym t.1)
          (λ at h goes_is. by_tests j cond cond width dst src off t.0 at (λ start packet f g one. same_test order start packet (known at.ready) f g one cond width dst src off h) goes_is) at h goes_is
      by_same i moved at e h goes_is = absurd (false≢true h)

      by_ordered : (i moved : Insn) (at : At j i moved) → by_order (facts_at at.ready.note) i moved ≡ true → goes notes (known at.ready) at.ready.fn.slot at.ready.state.top.slot i moved Kept ≡ true → Ready given deep (suc j)
      by_ordered (JumpIf cond W64 dst (FromReg src) off) (JumpIf other W64 left (FromReg right) new_off) at h goes_is =
          let a = and_parts (turned_test cond other) (same_register dst left && (same_register src right && are are_offsets (facts_at at.ready.note) dst src)) h in
          let b = and_parts (same_register dst left) (same_register src right && are are_offsets (facts_at at.ready.note) dst src) a.1 in
          let c = and_parts (same_register src right) (are are_offsets (facts_at at.ready.note) dst src) b.1 in
          subst (λ r. (at : At j (JumpIf cond W64 dst (FromReg src) off) (JumpIf other W64 r (FromReg right) new_off)) → are are_offsets (facts_at at.ready.note) dst src ≡ true → goes notes (known at.ready) at.ready.fn.slot at.ready.state.top.slot (JumpIf cond W64 dst (FromReg src) off) (JumpIf other W64 r (FromReg right) new_off) Kept ≡ true → Ready given deep (suc j)) (sym (register_is dst left b.0))
          (subst (λ r. (at : At j (JumpIf cond W64 dst (FromReg src) off) (JumpIf other W64 dst (FromReg r) new_off)) → are are_offsets (facts_at at.ready.note) dst src ≡ true → goes notes (known at.ready) at.ready.fn.slot at.ready.state.top.slot (JumpIf cond W64 dst (FromReg src) off) (JumpIf other W64 dst (FromReg r) new_off) Kept ≡ true → Ready given deep (suc j)) (sym (register_is src right c.0))
          (λ at h goes_is. by_tests j cond other W64 dst (FromReg src) off new_off at (λ start packet f g one. order_test order start packet (known at.ready) f g one cond other dst src a.0 h) goes_is)) at c.1 goes_is
      by_ordered i moved at h goes_is = absurd (false≢true h)

  -- what both put into a register
  by_put : (j : ℕ) (i moved : Insn) (at : At j i moved) (same : Bool) (change : Change) → IsTrue same ↔ (undirected moved ≡ undirected i) → puts (known at.ready) same i moved ≡ Some change
      → goes notes (known at.ready) at.ready.fn.slot at.ready.state.top.slot i moved change ≡ true → Ready given deep (suc j)
  unfolding is_dead
  by_put j i moved at same change same_is e goes_is = option_and_then_some _ (put_into i) change e (λ r er e1.
      let pin : Option Term = pin_of (facts_at q.note) i in
      let c = none_first (is_frame_pointer r) (option_map (put (Register r) pin) (put_by (known q) same i moved)) change e1 in
      let x = option_map_some (put (Register r) pin) (put_by (known q) same i moved) change c.1 in
      let h : goes notes (known q) q.fn.slot q.state.top.slot i moved (put (Register r) pin x.0) ≡ true = subst (λ change. goes notes (known q) q.fn.slot q.state.top.slot i moved change ≡ true) (sym x.2) goes_is in
      let p = and_parts (falls notes (known q) (put (Register r) pin x.0) q.fn.slot q.state.top.slot i moved) (leads notes (known q) (put (Register r) pin x.0) q.fn.slot q.state.top.slot i moved) h in
      let enc : HasEncoding i = encoding_at is old_valid.encoding q.fn.slot i at.here in
      let enc' : HasEncoding moved = encoding_at js new_valid.encoding q.state.top.slot moved at.there in
      let other = put_moved same i moved r x.0 same_is er x.1 in
      let here' : insn_at is q.fw.slot ≡ Some i = ap (insn_at is) q.old_at.slots_same ∙ at.here in
      let pn = put_both order (near_own given deep) (near_packet given deep) (known q) same i moved r x.0 q.fn q.gn same_is er enc enc' q.new_at.near_at (near_leaves given deep (known q) j q.n q.state q.fn q.fw q.gn q.gw i moved refl q.old_at q.new_at at.here at.there other) x.1 in
      let pw = put_both order (wide_own given deep) (wide_packet given deep) (known q) same i moved r x.0 q.fw q.gw same_is er enc enc' q.new_at.wide_at (wide_leaves given deep (known q) j q.n q.state q.fn q.fw q.gn q.gw i moved refl q.old_at q.new_at here' at.there other) x.1 in
      by_pairs j i moved at (put (Register r) pin x.0) (both_put order (near_own given deep) (near_packet given deep) (known q) i moved r x.0 q.fn q.gn q.new_at.near_at enc enc' er c.0 pn) (both_put order (wide_own given deep) (wide_packet given deep) (known q) i moved r x.0 q.fw q.gw q.new_at.wide_at enc enc' er c.0 pw) (put_falls i r er (put (Register r) pin x.0) p.0))
    where
      q : Ready given deep j
      q = at.ready

      loads_moved : (i moved : Insn) → loads_alike (known q) i moved ≡ true → moved ≡ Exit → ⊥
      loads_moved i moved h e = no_load i (subst (λ m. loads_alike (known q) i m ≡ true) e h)
        where
          no_load : (i : Insn) → loads_alike (known q) i Exit ≡ true → ⊥
          no_load (Load size dst src off) h = false≢true h
          no_load (LoadSx size dst src off) h = false≢true h
          no_load i h = false≢true h

      framed_moved : (i moved : Insn) → is_framed i moved ≡ true → moved ≡ Exit → ⊥
      framed_moved i moved h e = no_frame i (subst (λ m. is_framed i m ≡ true) e h)
        where
          no_frame : (i : Insn) → is_framed i Exit ≡ true → ⊥
          no_frame (Alu Mov W64 dst (FromReg r)) h = false≢true h
          no_frame i h = false≢true h

      -- the new instruction puts something, too
      put_moved : (same : Bool) (i moved : Insn) (r : Reg) (by : Option Term) → IsTrue same ↔ (undirected moved ≡ undirected i) → put_into i ≡ Some r → put_by (known q) same i moved ≡ Some by → moved ≡ Exit → ⊥
      put_moved true i moved r by same_is er h e = put_turns i r er (sym (plain_is i r er) ∙ sym (same_is.0 refl) ∙ ap undirected e)
      put_moved false i moved r by same_is er h e = by_load (loads_alike (known q) i moved || is_widened (known q) i moved) refl h
        where
          by_frame : (c : Bool) → is_framed i moved ≡ c → cond c (Some (Some frame_offset)) None ≡ Some by → ⊥
          by_frame true ec h = framed_moved i moved ec e
          by_frame false ec h = none-some _ h

          by_load : (c : Bool) → (loads_alike (known q) i moved || is_widened (known q) i moved) ≡ c → cond c (Some (Some zero_term)) (cond (is_framed i moved) (Some (Some frame_offset)) None) ≡ Some by → ⊥
          by_load true ec h = elim (or_cases (loads_alike (known q) i moved) (is_widened (known q) i moved) ec) [
            | inl loads ↦ loads_moved i moved loads e
            | inr wide ↦ widened_moved (known q) i moved wide e
          ]
          by_load false ec h = by_frame (is_framed i moved) refl h

      put_falls : (i : Insn) (r : Reg) → put_into i ≡ Some r → (change : Change) → falls notes (known q) change q.fn.slot q.state.top.slot i moved ≡ true → arrives notes (known q) change (Some q.fn.slot) (q.fn.slot + slot_count i) most_extras (q.state.top.slot + slot_count moved) ≡ true
      put_falls (JumpIf cond width dst src off) r e change h = absurd (none-some _ e)
      put_falls (Ja off) r e change h = absurd (none-some _ e)
      put_falls (JaLong off) r e change h = absurd (none-some _ e)
      put_falls Exit r e change h = absurd (none-some _ e)
      put_falls i r e change h = h

  -- what both store
  by_store : (j : ℕ) (i moved : Insn) (at : At j i moved) (same : Bool) (change : Change) → IsTrue same ↔ (undirected moved ≡ undirected i) → stores (known at.ready) same i moved ≡ Some change
      → goes notes (known at.ready) at.ready.fn.slot at.ready.state.top.slot i moved change ≡ true → Ready given deep (suc j)
  unfolding is_dead
  by_store j i moved at same change same_is e goes_is =
      by_pairs j i moved at change (near_pair same same_is e) (wide_pair same same_is e) (store_falls i (is_stored same i moved e) p.0)
    where
      q : Ready given deep j
      q = at.ready

      p : (falls notes (known q) change q.fn.slot q.state.top.slot i moved ≡ true) × (leads notes (known q) change q.fn.slot q.state.top.slot i moved ≡ true)
      p = and_parts (falls notes (known q) change q.fn.slot q.state.top.slot i moved) (leads notes (known q) change q.fn.slot q.state.top.slot i moved) goes_is

      enc : HasEncoding i
      enc = encoding_at is old_valid.encoding q.fn.slot i at.here

      enc' : HasEncoding moved
      enc' = encoding_at js new_valid.encoding q.state.top.slot moved at.there

      is_stored : (same : Bool) (i moved : Insn) → stores (known q) same i moved ≡ Some change → is_store i ≡ true
      is_stored same (Store size dst off src) moved e = refl
      is_stored same (StoreImm size dst off imm) moved e = refl
      is_stored same (Atomic wide op dst off src) moved e = refl
      is_stored true i moved e = absurd (none-some _ e)
      is_stored false i moved e = absurd (none-some _ e)

      store_falls : (i : Insn) → is_store i ≡ true → falls notes (known q) change q.fn.slot q.state.top.slot i moved ≡ true → arrives notes (known q) change (Some q.fn.slot) (q.fn.slot + slot_count i) most_extras (q.state.top.slot + slot_count moved) ≡ true
      store_falls (Store size dst off src) h e = e
      store_falls (StoreImm size dst off imm) h e = e
      store_falls (Atomic wide op dst off src) h e = e
      store_falls i h e = absurd (false≢true h)

      alike : (o : Option Change) → cond (stores_alike (known q) i moved) o None ≡ Some change → (stores_alike (known q) i moved ≡ true) × (o ≡ Some change)
      alike o h = cond_option (stores_alike (known q) i moved) o change h

      moved_store : stores_alike (known q) i moved ≡ true → moved ≡ Exit → ⊥
      moved_store h e = no_store i (subst (λ m. stores_alike (known q) i m ≡ true) e h)
        where
          no_store : (i : Insn) → stores_alike (known q) i Exit ≡ true → ⊥
          no_store (Store size dst off src) h = false≢true h
          no_store (StoreImm size dst off imm) h = false≢true h
          no_store (Atomic wide op dst off src) h = false≢true h
          no_store i h = false≢true h

      near_alike : cond (stores_alike (known q) i moved) (reached (known q).left i moved) None ≡ Some change → Paired order (near_own given deep) (near_packet given deep) (known q) change i moved q.fn q.gn
      near_alike h =
          let c = alike (reached (known q).left i moved) h in
          stores_there order (near_own given deep) (near_packet given deep) (known q) change i moved q.fn q.gn q.new_at.near_at enc enc' (near_leaves given deep (known q) j q.n q.state q.fn q.fw q.gn q.gw i moved refl q.old_at q.new_at at.here at.there (moved_store c.0)) c.0 c.1

      wide_alike : cond (stores_alike (known q) i moved) (reached (known q).left i moved) None ≡ Some change → Paired order (wide_own given deep) (wide_packet given deep) (known q) change i moved q.fw q.gw
      wide_alike h =
          let c = alike (reached (known q).left i moved) h in
          stores_there order (wide_own given deep) (wide_packet given deep) (known q) change i moved q.fw q.gw q.new_at.wide_at enc enc' (wide_leaves given deep (known q) j q.n q.state q.fn q.fw q.gn q.gw i moved refl q.old_at q.new_at (ap (insn_at is) q.old_at.slots_same ∙ at.here) at.there (moved_store c.0)) c.0 c.1

      near_pair : (same : Bool) → IsTrue same ↔ (undirected moved ≡ undirected i) → stores (known q) same i moved ≡ Some change → Paired order (near_own given deep) (near_packet given deep) (known q) change i moved q.fn q.gn
      near_pair false same_is h = near_alike h
      near_pair true same_is h = by_slot (puts_slot (facts_at q.note) i) refl h
        where
          by_slot : (o : Option Change) → puts_slot (facts_at q.note) i ≡ o → option_or o (cond (stores_alike (known q) i moved) (reached (known q).left i moved) None) ≡ Some change → Paired order (near_own given deep) (near_packet given deep) (known q) change i moved q.fn q.gn
          by_slot None eo h = near_alike h
          by_slot (Some c) eo h = subst (λ m. Paired order (near_own given deep) (near_packet given deep) (known q) change i m q.fn q.gn) (sym (store_again i moved (is_stored true i moved e') (same_is.0 refl))) (slots_put order (near_own given deep) (near_packet given deep) (known q) change i q.fn q.gn q.new_at.near_at enc (eo ∙ h))
            where
              e' : stores (known q) true i moved ≡ Some change
              e' = ap (λ o. option_or o (cond (stores_alike (known q) i moved) (reached (known q).left i moved) None)) eo ∙ h

      wide_pair : (same : Bool) → IsTrue same ↔ (undirected moved ≡ undirected i) → stores (known q) same i moved ≡ Some change → Paired order (wide_own given deep) (wide_packet given deep) (known q) change i moved q.fw q.gw
      wide_pair false same_is h = wide_alike h
      wide_pair true same_is h = by_slot (puts_slot (facts_at q.note) i) refl h
        where
          by_slot : (o : Option Change) → puts_slot (facts_at q.note) i ≡ o → option_or o (cond (stores_alike (known q) i moved) (reached (known q).left i moved) None) ≡ Some change → Paired order (wide_own given deep) (wide_packet given deep) (known q) change i moved q.fw q.gw
          by_slot None eo h = wide_alike h
          by_slot (Some c) eo h = subst (λ m. Paired order (wide_own given deep) (wide_packet given deep) (known q) change i m q.fw q.gw) (sym (store_again i moved (is_stored true i moved e') (same_is.0 refl))) (slots_put order (wide_own given deep) (wide_packet given deep) (known q) change i q.fw q.gw q.new_at.wide_at enc (eo ∙ h))
            where
              e' : stores (known q) true i moved ≡ Some change
              e' = ap (λ o. option_or o (cond (stores_alike (known q) i moved) (reached (known q).left i moved) None)) eo ∙ h

  -- an instruction that neither calls nor ends a function
  pub by_pair : (j : ℕ) (i moved : Insn) (at : At j i moved) (same : Bool) → IsTrue same ↔ (undirected moved ≡ undirected i) → option_map_or (goes notes (known at.ready) at.ready.fn.slot at.ready.state.top.slot i moved) (paired (known at.ready) same i moved) false ≡ true → Ready given deep (suc j)
  unfolding paired
  by_pair j i moved at same same_is good = by_change (paired (known q) same i moved) refl good
    where
      q : Ready given deep j
      q = at.ready

      by_first : (change : Change) (o : Option Change) → stores (known q) same i moved ≡ o → option_or o (puts (known q) same i moved) ≡ Some change → goes notes (known q) q.fn.slot q.state.top.slot i moved change ≡ true → Ready given deep (suc j)
      by_first change None eo e g = by_put j i moved at same change same_is e g
      by_first change (Some c) eo e g = by_store j i moved at same change same_is (eo ∙ e) g

      by_test : (change : Change) (c : Bool) → keeps (facts_at q.note) same i moved ≡ c → cond c (Some Kept) (option_or (stores (known q) same i moved) (puts (known q) same i moved)) ≡ Some change → goes notes (known q) q.fn.slot q.state.top.slot i moved change ≡ true → Ready given deep (suc j)
      by_test change true ec e g = by_kept j i moved at same same_is ec (subst (λ change. goes notes (known q) q.fn.slot q.state.top.slot i moved change ≡ true) (sym (same_Some Kept change e)) g)
      by_test change false ec e g = by_first change (stores (known q) same i moved) refl e g

      by_change : (o : Option Change) → paired (known q) same i moved ≡ o → option_map_or (goes notes (known q) q.fn.slot q.state.top.slot i moved) o false ≡ true → Ready given deep (suc j)
      by_change None eo h = absurd (false≢true h)
      by_change (Some change) eo h = by_test change (keeps (facts_at q.note) same i moved) refl eo h
