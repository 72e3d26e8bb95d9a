-- What both put into a register, where the new program's instruction stands for the old one's.
use Rattle.std.proofs.Common.{◌≡◌, ℕ, ◌∙◌, ap, refl, subst, sym, inl, inr, Bool, true, false, Option, Some, None, cond}
use Rattle.std.specs.Prelude.{◌↔◌, IsTrue, option_map, ◌||◌, if◌then◌else◌}
use Rattle.std.specs.Option.{option_or}
use Rattle.std.proofs.lemmas.Bool.{or_cases}
use Rattle.std.proofs.lemmas.Option.{none-some, same_Some}
use Rattle.bpf_insn.specs.Image.{HasEncoding}
use Rattle.bpf_insn.specs.declared.order.Order.{Order}
use Rattle.bpf_insn.specs.declared.instruction.Reg.{Reg}
use Rattle.bpf_insn.specs.declared.instruction.Insn.{Insn}
use Rattle.bpf_insn.specs.declared.instruction.Insn.TheVariants.{Alu, Neg, MovSx, End, LoadImm64, Load, LoadSx, Ja, JaLong, JumpIf, CallLocal}
use Rattle.bpf_semantics.specs.Flat.{FlatState}
use Rattle.bpf_semantics.proofs.StateLemmas.{cond_option}
use Rattle.bpf_kept.specs.declared.notes.Term.{Term}
use Rattle.bpf_kept.specs.Terms.{Packet, DiffersBy, zero_term, frame_offset}
use Rattle.bpf_kept.specs.Rules.{Known, put_into, has_low_result, result_term, loads_alike, is_widened, is_framed, undirected, low_result, put_by}
use Rattle.bpf_kept.proofs.FrameLaw.{Goes}
use Rattle.bpf_kept.proofs.PutValue.{put_value, put_below}
use Rattle.bpf_kept.proofs.PutLaw.{AtOnce, LoadsSame, load_same, result_differs, has_low, framed_differs, equal_differs}
use Rattle.bpf_kept.proofs.WideLaw.{wide_same}

-- where they are the same but for where they lead, and put a number, they are the same
pub plain_is : (i : Insn) (r : Reg) → put_into i ≡ Some r → undirected i ≡ i
plain_is (Alu op width dst src) r e = refl
plain_is (Neg width dst) r e = refl
plain_is (MovSx width b dst src) r e = refl
plain_is (End kind b dst) r e = refl
plain_is (LoadImm64 dst value) r e = refl
plain_is (Load size dst src off) r e = refl
plain_is (LoadSx size dst src off) r e = refl
plain_is i r e = absurd (none-some _ e)

undirected_put : (i : Insn) → put_into (undirected i) ≡ put_into i
undirected_put (Ja off) = refl
undirected_put (JaLong off) = refl
undirected_put (JumpIf cond width dst src off) = refl
undirected_put (CallLocal off) = refl
undirected_put i = refl

put_again : (i moved : Insn) (r : Reg) → put_into i ≡ Some r → undirected moved ≡ undirected i → moved ≡ i
put_again i moved r into same =
    let m : put_into moved ≡ Some r = sym (undirected_put moved) ∙ ap put_into same ∙ undirected_put i ∙ into in
    sym (plain_is moved r m) ∙ same ∙ plain_is i r into

-- what both put differs by the term, or its low half is the same
pub record PutBoth (order : Order) (start : ℕ) (i moved : Insn) (r : Reg) (by : Option Term) (f g : FlatState) : Type 0 where
  pub into : put_into moved ≡ Some r
  pub value : DiffersBy start by (put_value order i f) (put_value order moved g)

pub put_both : (order : Order) (start : ℕ) (packet : Packet) (known : Known) (same : Bool) (i moved : Insn) (r : Reg) (by : Option Term) (f g : FlatState) → IsTrue same ↔ (undirected moved ≡ undirected i) → put_into i ≡ Some r → HasEncoding i → HasEncoding moved → AtOnce order start packet known f g → Goes start packet known.left i moved f g
    → put_by known same i moved ≡ Some by → PutBoth order start i moved r by f g
put_both order start packet known true i moved r by f g same into enc enc' at leaves e =
    let is : moved ≡ i = put_again i moved r into (same.0 refl) in
    subst (λ m. PutBoth order start i m r by f g) (sym is) (by_result (result_term known i) refl e)
  where
    leaves_itself : Goes start packet known.left i i f g
    leaves_itself = subst (λ m. Goes start packet known.left i m f g) (put_again i moved r into (same.0 refl)) leaves

    by_result : (o : Option Term) → result_term known i ≡ o → option_or (option_map Some o) (low_result known.facts i) ≡ Some by → PutBoth order start i i r by f g
    by_result (Some t) eo h = subst (λ by. PutBoth order start i i r by f g) (same_Some (Some t) by h) (record { into = into; value = result_differs order start packet known i r f g t into enc at leaves_itself eo })
    by_result None eo h =
        let c = cond_option (has_low_result known.facts i) (Some None) by h in
        subst (λ by. PutBoth order start i i r by f g) (same_Some None by c.1) (record { into = into; value = has_low order start packet known i f g at c.0 })
put_both order start packet known false i moved r by f g same into enc enc' at leaves e = by_load (loads_alike known i moved || is_widened known i moved) refl e
  where
    by_frame : (b : Bool) → is_framed i moved ≡ b → cond b (Some (Some frame_offset)) None ≡ Some by → PutBoth order start i moved r by f g
    by_frame false eb h = absurd (none-some _ h)
    by_frame true eb h =
        let d = framed_differs order start i moved f g at.pointers.0 eb in
        subst (λ by. PutBoth order start i moved r by f g) (same_Some (Some frame_offset) by h) (record { into = d.into ∙ into; value = d.value })

    puts_same : LoadsSame order i moved f g → Some (Some zero_term) ≡ Some by → PutBoth order start i moved r by f g
    puts_same l h =
        subst (λ by. PutBoth order start i moved r by f g) (same_Some (Some zero_term) by h)
        (record { into = l.into ∙ into; value = equal_differs start (put_value order i f) (put_value order moved g) (put_below order i r f into enc at.flat) l.value })

    by_load : (b : Bool) → (loads_alike known i moved || is_widened known i moved) ≡ b → cond b (Some (Some zero_term)) (if is_framed i moved then Some (Some frame_offset) else None) ≡ Some by
        → PutBoth order start i moved r by f g
    by_load false eb h = by_frame (is_framed i moved) refl h
    by_load true eb h = elim (or_cases (loads_alike known i moved) (is_widened known i moved) eb) [
      | inl loads ↦ puts_same (load_same order start packet known i moved f g enc enc' at leaves loads) h
      | inr wide ↦ puts_same (wide_same order start packet known i moved f g at wide) h
    ]
