-- Guards by the packet's end pass: where the old program's accesses follow, what is tested isn't behind that end.
use Rattle.std.proofs.Common.{◌≡◌, ℕ, ◌+◌, ◌%◌, ◌^◌, ◌<◌, ◌≤◌, ◌==◌, refl, ap, ◌∙◌, subst, arith, Bool, true, false, Option, Some, None}
use Rattle.std.specs.Prelude.{ℤ, pos, ◌+ℤ◌, ◌-ℤ◌, ◌≤ℤ◌, ◌&&◌}
use Rattle.std.specs.Int.{w64, cast_signed}
use Rattle.std.specs.Option.{option_map_or}
use Rattle.std.specs.List.{AllByRecursion, list_any}
use Rattle.std.proofs.lemmas.Bool.{and_parts, eqb-true, false≢true}
use Rattle.std.proofs.lemmas.Int.{ints}
use Rattle.bpf_insn.specs.Arithmetic.{modulo}
use Rattle.bpf_insn.specs.Effects.{Access}
use Rattle.bpf_insn.specs.Limits.{max_frames}
use Rattle.bpf_insn.specs.Instruction.{Instructions, register_number, byte_count}
use Rattle.bpf_insn.specs.declared.order.Order.{Order}
use Rattle.bpf_insn.specs.declared.instruction.Reg.{Reg}
use Rattle.bpf_semantics.specs.Blocks.{head_bytes}
use Rattle.bpf_semantics.specs.Flat.{FlatState, IsFlat, addresses, frame_start, flat_register}
use Rattle.bpf_semantics.proofs.FlatArith.{Same, same_refl, same_trans, same_plus, same_equal}
use Rattle.bpf_kept.specs.Far.{near, wide, middle, bytes_before}
use Rattle.bpf_kept.specs.Meaning.{Bounds}
use Rattle.bpf_kept.specs.declared.notes.Holder.{Holder}
use Rattle.bpf_kept.specs.declared.notes.Holder.TheVariants.{Register, Slot, Length}
use Rattle.bpf_kept.specs.declared.notes.Term.{Term}
use Rattle.bpf_kept.specs.declared.notes.Fact.{Fact}
use Rattle.bpf_kept.specs.declared.notes.Need.TheVariants.{Below, Above}
use Rattle.bpf_kept.specs.Terms.{Packet, Facts, Differs, DiffersBy, Holds, AllHold, value_in, shift}
use Rattle.bpf_kept.specs.Rules.{is_holder, is_register}
use Rattle.bpf_kept.specs.Guards.{Front, in_context, is_end_term, is_end, has_end, is_met, is_ahead, is_reached_by, is_reached_in, is_reached, accesses_ahead, farthest_ahead}
use Rattle.bpf_kept.proofs.TermLaw.{differs_same}
use Rattle.bpf_kept.proofs.HoldsLaw.{any_holds, held, plain_shift}
use Rattle.bpf_kept.proofs.TestLaw.{cancelled}
use Rattle.bpf_kept.proofs.AheadLaw.{Inside}
use Rattle.bpf_kept.proofs.GuardLaw.{Lies, begins, at_most, le_of, any_of, context_same, signed_top, in_packet}

-- ---- the packet's end

end_term : (start len y : ℕ) (o : Option Term) → len < 2 ^ 32 → DiffersBy start o len y → option_map_or is_end_term o false ≡ true → y ≡ len + head_bytes
end_term start len y None short d e = absurd (false≢true e)
end_term start len y (Some t) short d e =
    let c = and_parts (t.frames == 0) (t.moved == head_bytes) e in
    let by : shift start t ≡ pos head_bytes = plain_shift start t c.0 ∙ ap pos (eqb-true t.moved head_bytes c.1) in
    let is : y ≡ (len + head_bytes) % addresses = d ∙ ap (λ z. modulo (pos len +ℤ z) addresses) by in
    is ∙ (omega arith)

-- the new program has it in a register
pub end_is : (order : Order) (start : ℕ) (packet : Packet) (facts : Facts) (f g : FlatState) (r : Reg) → packet.length < 2 ^ 32 → AllHold start (value_in order start packet f) (value_in order start packet g) facts → has_end facts r ≡ true → flat_register g r ≡ packet.length + head_bytes
unfolding has_end
end_is order start packet facts f g r short all e =
    let h = any_holds (is_end r) (Holds start (value_in order start packet f) (value_in order start packet g)) facts e all in
    let a = and_parts (is_register r h.0.of) (is_holder Length h.0.base && option_map_or is_end_term h.0.by false) h.1 in
    let b = and_parts (is_holder Length h.0.base) (option_map_or is_end_term h.0.by false) a.1 in
    end_term start packet.length (flat_register g r) h.0.by short
    (subst (λ x. DiffersBy start h.0.by x (flat_register g r)) (held (value_in order start packet f) Length h.0.base b.0) (subst (λ y. DiffersBy start h.0.by (value_in order start packet f h.0.base) y) (held (value_in order start packet g) (Register r) h.0.of a.0) h.2)) b.1

-- ---- what is tested

few_before : (padded : Bool) → bytes_before padded ≤ head_bytes
few_before true = omega arith
few_before false = omega arith

-- that an access ends at the offset or behind it is what the number, which is moved so, wants
not_behind : (h len : ℕ) (moved e : ℤ) → h ≤ 8 → moved ≤ℤ e → ((pos (h + len) +ℤ moved) -ℤ pos (len + 8)) ≤ℤ e
not_behind h len moved e le t = omega (arith, ints)

module _ (deep : ℕ) (shallow : deep < max_frames) (bounds : Bounds) (packet : Packet) (old : Instructions) (slot x : ℕ) (fn fw : FlatState) (short : bounds.length < 2 ^ 32) (few : bytes_before bounds.padded + packet.length ≤ bounds.length) (small : x < addresses) (flat : IsFlat fn) (flat' : IsFlat fw)
    (inside : (r : Reg) → AllByRecursion (Inside (near bounds.padded) packet.length bounds.untouched deep r (flat_register fn r)) (accesses_ahead old r farthest_ahead slot))
    (inside' : (r : Reg) → AllByRecursion (Inside (wide bounds.padded) packet.length bounds.untouched deep r (flat_register fw r)) (accesses_ahead old r farthest_ahead slot)) where
  abbrev front : Front
  front = record { old = old; slot = slot; bounds = bounds }

  abbrev start : ℕ
  start = frame_start (near false) deep

  abbrev other : ℕ
  other = frame_start (wide false) deep

  abbrev before : ℕ
  before = bytes_before bounds.padded

  -- an access by a register stays inside at both placements
  abbrev InsideNear : Reg → Access → Type 0
  InsideNear r a = Inside (near bounds.padded) packet.length bounds.untouched deep r (flat_register fn r) a

  abbrev InsideWide : Reg → Access → Type 0
  InsideWide r a = Inside (wide bounds.padded) packet.length bounds.untouched deep r (flat_register fw r) a

  by_accesses : (t : Term) (r : Reg) → flat_register fw r ≡ flat_register fn r
      → Same (pos x) (pos (flat_register fn r) +ℤ (pos (2 ^ 63) +ℤ (in_context bounds t).moved)) → is_reached_by front r (in_context bounds t) ≡ true
      → x ≤ packet.length + head_bytes
  unfolding is_ahead
  by_accesses t r same s e =
      let moved : ℤ = cast_signed w64 ((t.moved + middle) % addresses) in
      let accesses = accesses_ahead old r farthest_ahead slot in
      let low : ℤ = (pos before +ℤ moved) -ℤ pos 0 in
      let h = and_parts (list_any (is_met (Below low)) accesses) (list_any (is_met (Above moved)) accesses) e in
      let a = any_of (is_met (Below low)) (InsideNear r) (InsideWide r) accesses h.0 (inside r) (inside' r) in
      let b = any_of (is_met (Above moved)) (InsideNear r) (InsideWide r) accesses h.1 (inside r) (inside' r) in
      let lies : (a : Access) → InsideNear r a → InsideWide r a → Lies x before (before + packet.length) moved a =
      λ a h k. in_packet deep shallow bounds.padded packet.length bounds.untouched x (flat_register fn r) (flat_register fw r) moved r a same s h k in
      let near : before + packet.length < 2 ^ 32 = omega arith in
      let first = begins x before (before + packet.length) 0 moved a.0 small near (signed_top (t.moved + middle)) (lies a.0 a.2 a.3) (le_of a.0.offset low a.1) in
      at_most x before (before + packet.length) (packet.length + 8) moved a.0 b.0 near first a.2.near (lies b.0 b.2 b.3)
      (not_behind before packet.length moved (b.0.offset +ℤ pos (byte_count b.0.size)) (few_before bounds.padded) (le_of moved (b.0.offset +ℤ pos (byte_count b.0.size)) b.1))

  by_register : (t : Term) (r : Reg) → Differs start t (flat_register fn r) x → Differs other t (flat_register fw r) x
      → is_reached_in front t (Register r) ≡ true → x ≤ packet.length + head_bytes
  by_register t r p q e =
      let moved : ℤ = cast_signed w64 ((t.moved + middle) % addresses) in
      let c = and_parts (t.frames == 0) (is_reached_by front r (in_context bounds t)) e in
      let near_is = differs_same start t (flat_register fn r) x p in
      let wide_is = differs_same other t (flat_register fw r) x q in
      let s : Same (pos x) (pos (flat_register fn r) +ℤ (pos (2 ^ 63) +ℤ moved)) = same_trans near_is (same_plus (same_refl (pos (flat_register fn r))) (same_trans (same_equal (plain_shift start t c.0)) (context_same t.moved))) in
      let s' : Same (pos x) (pos (flat_register fw r) +ℤ (pos (2 ^ 63) +ℤ moved)) = same_trans wide_is (same_plus (same_refl (pos (flat_register fw r))) (same_trans (same_equal (plain_shift other t c.0)) (context_same t.moved))) in
      let same : flat_register fw r ≡ flat_register fn r = cancelled (flat_register fw r) (flat_register fn r) x x (pos (2 ^ 63) +ℤ moved) (flat'.numbers (register_number r)) (flat.numbers (register_number r)) s' s refl in
      by_accesses t r same s c.1

  -- what is known of it at both placements
  pub end_passes : (order : Order) (fact : Fact) → DiffersBy start fact.by (value_in order start packet fn fact.base) x
      → DiffersBy other fact.by (value_in order other packet fw fact.base) x → is_reached front fact ≡ true → x ≤ packet.length + head_bytes
  end_passes order fact p q e = by_term fact.by refl e
    where
      by_base : (t : Term) → fact.by ≡ Some t → (o : Option Holder) → fact.base ≡ o → option_map_or (is_reached_in front t) o false ≡ true → x ≤ packet.length + head_bytes
      by_base t et None eo h = absurd (false≢true h)
      by_base t et (Some (Slot n)) eo h = absurd (false≢true h)
      by_base t et (Some Length) eo h = absurd (false≢true h)
      by_base t et (Some (Register r)) eo h =
          by_register t r (subst (λ base. DiffersBy start (Some t) (value_in order start packet fn base) x) eo (subst (λ by. DiffersBy start by (value_in order start packet fn fact.base) x) et p))
          (subst (λ base. DiffersBy other (Some t) (value_in order other packet fw base) x) eo (subst (λ by. DiffersBy other by (value_in order other packet fw fact.base) x) et q)) h

      by_term : (o : Option Term) → fact.by ≡ o → option_map_or (λ t. option_map_or (is_reached_in front t) fact.base false) o false ≡ true → x ≤ packet.length + head_bytes
      by_term None eo h = absurd (false≢true h)
      by_term (Some t) eo h = by_base t eo fact.base refl h
