-- A machine comes to a label whose state takes what is known of it.
use Rattle.std.proofs.Common.{◌*ℤ◌, not, nat_le, ◌≡◌, ℕ, suc, ◌+◌, ◌≤◌, refl, sym, ap, ◌∙◌, subst, arith, ℤ, pos, ◌≤ℤ◌, true, false, List, [], ◌∷◌, length, get_or, slice_get, Option, Some, None, is_some, is_none, option_map}
use Rattle.std.proofs.lemmas.Bool.{false≢true, true≢false, or_parts}
use Rattle.std.proofs.lemmas.Int.{ints}
use Rattle.bpf_insn.specs.Instruction.{Instructions}
use Rattle.bpf_semantics.specs.State as machine
use Rattle.bpf_num.specs.Interval.{Interval}
use Rattle.bpf_state.specs.State.{IsPlace, AbstractState, tightened, IsAbstract}
use Rattle.bpf_safety.specs.Describes.{Describes}
use Rattle.bpf_state.specs.Entails.{state_entails}
use Rattle.bpf_safety.specs.Laws as abstract
use Rattle.bpf_state.specs.declared.known.Place.{Place}
use Rattle.bpf_cert.specs.declared.certificate.Term.{Term}
use Rattle.bpf_cert.specs.View.{LabelView, CertificateView}
use Rattle.bpf_safety.specs.Labels.{label_at}
use Rattle.bpf_state.specs.Held.{held}
use Rattle.bpf_state.specs.State.{tag as tag_of}
use Rattle.bpf_safety.specs.Budget.{budget as budget_of, budget_value, InBox, OnEdge, HaveTagsOf, AllowedBy, place_of, bounds, unsigned_bounds, term_value, terms_value, measured}
use Rattle.bpf_cert.specs.declared.certificate.Measure.{Measure}
use Rattle.bpf_cert.specs.declared.certificate.Measure.TheVariants.{Down, Up}
use Rattle.bpf_safety.specs.Flaw.{is_bad_limit}
use Rattle.bpf_safety.specs.Flow.{label_state, with_tags}
use Rattle.bpf_safety.proofs.Basics.{some_is, natural}
use Rattle.bpf_safety.proofs.Here.{IsWellFormed, IsRightLabel, HasBounds, values}
use Rattle.bpf_safety.proofs.LawsBelow.{Laws}
use Rattle.bpf_safety.proofs.Places.{HoldsValue, HoldsValues, holds_once, term_within, holds_tagged, entailed_bounds, tightened_bounds, untagged, untagged_describes, untagged_abstract, tightened_untagged, held_untagged, held_tags, abstract_tags, tags_describe, find_values}
use Rattle.bpf_safety.proofs.Facts.{passes_none}
use Rattle.std.proofs.Math.IntN.{zero-*ℤ, *ℤ_comm}
use Rattle.std.proofs.lemmas.Bool.Decides.{nat_tests}
use Rattle.std.proofs.lemmas.Option.{slice_get_within, get_or_from_slice_get}
use Rattle.bpf_num.specs.Laws.IntegerLaws.{mul_le_pos}
use Rattle.bpf_state.specs.declared.known.Tag.{Tag}

-- what is known at the label, with the values that the label's places hold
pub record Arrives (p : Instructions) (least most : ℕ) (m : machine.State) (l : LabelView) (s : AbstractState) (x : List ℕ) : Type 0 where
  pub at_label : AbstractState
  pub state_is : label_state l ≡ Some at_label
  pub y : List ℕ
  pub as_many : length y ≡ length l.terms
  pub valid : IsAbstract at_label
  pub described : Describes p.order least most y at_label m
  pub has_bounds : HasBounds at_label l.terms
  pub inside : InBox at_label l.terms (values y)
  pub edge_has_bounds : HasBounds s l.terms
  pub inside_edge : InBox s l.terms (values y)
  pub on_edge : OnEdge s l.terms (values x) (values y)
  pub tags_are : HaveTagsOf (length x) s l.terms
  pub budget : ℕ
  pub budget_is : budget_value (budget_of l) (values y) ≡ pos budget

map_fusion : {A B C : Type 0} (f : B → C) (g : A → B) (o : Option A) → option_map f (option_map g o) ≡ option_map (λ a. f (g a)) o
map_fusion f g None = refl
map_fusion f g (Some a) = refl

pub record Mapped {A B : Type 0} (f : A → B) (o : Option A) (b : B) : Type 0 where
  pub value : A
  pub is_there : o ≡ Some value
  pub value_is : f value ≡ b

mapped : {A B : Type 0} (f : A → B) (o : Option A) (b : B) → option_map f o ≡ Some b → Mapped f o b
mapped f None b e = absurd (false≢true (ap is_some e))
mapped f (Some a) b e = record { value = a; is_there = refl; value_is = some_is (f a) b e }

there : {A : Type 0} (o : Option A) → is_none o ≡ false → (a : A) × (o ≡ Some a)
there (Some a) e = (a, refl)
there None e = absurd (true≢false e)

-- ---- a budget isn't negative where its places are within their limits

weighed : (w : ℕ) (z : ℤ) → pos 0 ≤ℤ z → pos 0 ≤ℤ (pos w *ℤ z)
weighed w z h =
    let k = mul_le_pos w (pos 0) z h in
    let zero' : pos w *ℤ pos 0 ≡ pos 0 = *ℤ_comm (pos w) (pos 0) ∙ zero-*ℤ (pos w) in
    omega (arith, ints)

terms_natural : (y : ℕ → ℤ) (k : ℕ) (ts : List Term) → ((j : ℕ) (t : Term) → slice_get ts j ≡ Some t → pos 0 ≤ℤ term_value t (y (k + j))) → pos 0 ≤ℤ terms_value k ts y
terms_natural y k [] h = omega (arith, ints)
terms_natural y k (t ∷ ts) h =
    let first : pos 0 ≤ℤ term_value t (y k) = subst (λ n. pos 0 ≤ℤ term_value t (y n)) (omega arith) (h 0 t refl) in
    let rest = terms_natural y (suc k) ts (λ j u e. subst (λ n. pos 0 ≤ℤ term_value u (y n)) (omega arith) (h (suc j) u e)) in
    omega (arith, ints)

limited : (s : AbstractState) (t : Term) (r : Interval) (y : ℕ) → bounds s t ≡ Some r → y ≤ r.hi → is_bad_limit (Some s) t.measure t ≡ false → pos 0 ≤ℤ term_value t (pos y)
limited s t r y e le h = weighed t.weight (measured t.measure (pos y)) (by_measure t.measure h)
  where
    by_measure : (m : Measure) → is_bad_limit (Some s) m t ≡ false → pos 0 ≤ℤ measured m (pos y)
    by_measure (Down place) h = omega (arith, ints)
    by_measure (Up place limit) h =
        let test : not (nat_le r.hi limit) ≡ false = passes_none (λ r. not (nat_le r.hi limit)) (bounds s t) r h e in
        let within : r.hi ≤ limit = grind (arith, nat_tests) in
        omega (arith, ints)

module _ (p : Instructions) (c : CertificateView) (laws : Laws) (certificate : IsWellFormed c) where
  pub arrive : (m : machine.State) (l : LabelView) (s : AbstractState) (x : List ℕ) (slot : ℕ) → label_at c slot ≡ Some l → IsRightLabel p l → IsAbstract s → Describes p.order c.least c.most x s m → state_entails s l.state ≡ true → Arrives p c.least c.most m l s x
  arrive m l s x slot l_is right valid described entails =
      record {
        at_label = with_tags 0 l.terms told.state;
        state_is = state_is;
        y = found.y;
        as_many = found.as_many;
        valid = abstract_tags 0 l.terms told.state told.valid;
        described = described';
        has_bounds = has_bounds;
        inside = λ j t r e b. within (with_tags 0 l.terms told.state) found.y described' j t r e b;
        edge_has_bounds = edge_bounds;
        inside_edge = λ j t r e b. within s x described j t r e b;
        on_edge = on_edge;
        tags_are = λ j t tag e i. let h = holds_tagged p.order c.least c.most x s m described (place_of t) tag (is_place j t e) i in slice_get_within x tag.term h.tagged.0 h.tagged.1;
        budget = budget.0;
        budget_is = budget.1;
      }
    where
      is_place : (j : ℕ) (t : Term) → slice_get l.terms j ≡ Some t → IsPlace (place_of t)
      is_place j t e = certificate.places l slot j t l_is e

      valid_label : IsAbstract l.state
      valid_label = certificate.states l slot l_is

      bad : (j : ℕ) (t : Term) → slice_get l.terms j ≡ Some t → (is_none (bounds l.state t) ≡ false) × (is_bad_limit (tightened l.state) t.measure t ≡ false)
      bad j t e = or_parts (is_none (bounds l.state t)) (is_bad_limit (tightened l.state) t.measure t) (right.terms j t e)

      label_bounds : HasBounds l.state l.terms
      label_bounds j t e = there (bounds l.state t) (bad j t e).0

      edge_bounds : HasBounds s l.terms
      edge_bounds j t e = entailed_bounds s l.state (place_of t) valid valid_label (is_place j t e) entails (label_bounds j t e)

      found : HoldsValues p.order m l.terms
      found = find_values p.order m l.terms (λ j t e. let r = edge_bounds j t e in let h = term_within p.order c.least c.most x s m described t r.0 (is_place j t e) r.1 in (h.value, h.holds))

      told : abstract.Leads p c.least c.most found.y (tightened (untagged l.state)) m
      told =
          laws.tightened_describes p c.least c.most found.y (untagged l.state) m (untagged_abstract l.state valid_label)
          (laws.entails_describes p.order c.least c.most found.y (untagged s) l.state m (untagged_abstract s valid) valid_label entails (untagged_describes p.order c.least c.most x found.y s m described))

      state_is : label_state l ≡ Some (with_tags 0 l.terms told.state)
      state_is =
          sym (map_fusion (with_tags 0 l.terms) untagged (tightened l.state))
          ∙ ap (option_map (with_tags 0 l.terms)) (sym (tightened_untagged l.state) ∙ told.is_there)

      tight : Mapped untagged (tightened l.state) told.state
      tight = mapped untagged (tightened l.state) told.state (sym (tightened_untagged l.state) ∙ told.is_there)

      described' : Describes p.order c.least c.most found.y (with_tags 0 l.terms told.state) m
      described' = tags_describe p.order c.least c.most found.y 0 l.terms told.state m (λ j t e. subst (λ n. HoldsValue p.order m (place_of t) found.y n) (omega arith) (found.each j t e)) told.describes

      tight_bounds : HasBounds tight.value l.terms
      tight_bounds j t e = tightened_bounds l.state tight.value (place_of t) tight.is_there (label_bounds j t e)

      same_held : (place : Place) → held (with_tags 0 l.terms told.state) place ≡ held tight.value place
      same_held place = held_tags 0 l.terms place told.state ∙ ap (λ z. held z place) (sym tight.value_is) ∙ held_untagged tight.value place

      has_bounds : HasBounds (with_tags 0 l.terms told.state) l.terms
      has_bounds j t e = let r = tight_bounds j t e in (r.0, ap unsigned_bounds (same_held (place_of t)) ∙ r.1)

      -- the values are within what a state says of their places
      within : (z : AbstractState) (w : List ℕ) → Describes p.order c.least c.most w z m → (j : ℕ) (t : Term) (r : Interval) → slice_get l.terms j ≡ Some t → bounds z t ≡ Some r → (pos r.lo ≤ℤ values found.y j) × (values found.y j ≤ℤ pos r.hi)
      within z w d j t r e b =
          let h = term_within p.order c.least c.most w z m d t r (is_place j t e) b in
          let v = found.each j t e in
          let same = holds_once p.order m (place_of t) h.value v.value h.holds v.holds in
          let at = get_or_from_slice_get found.y j v.value 0 v.is_there in
          let low = h.low in
          let high = h.high in
          (omega (arith, ints), omega (arith, ints))

      on_edge : OnEdge s l.terms (values x) (values found.y)
      on_edge j t e = by_tag (tag_of s (place_of t)) refl
        where
          by_tag : (tag : Option Tag) → tag_of s (place_of t) ≡ tag → AllowedBy s (values x) tag t (values found.y j)
          by_tag None i = λ r b. within s x described j t r e b
          by_tag (Some tag) i =
              let h = holds_tagged p.order c.least c.most x s m described (place_of t) tag (is_place j t e) i in
              let v = found.each j t e in
              let same = holds_once p.order m (place_of t) h.value v.value h.holds v.holds in
              let at = get_or_from_slice_get found.y j v.value 0 v.is_there in
              let from = get_or_from_slice_get x tag.term h.tagged.0 0 h.tagged.1 in
              let sum = h.tagged.2 in
              omega (arith, ints)

      enough : pos 0 ≤ℤ terms_value 0 l.terms (values found.y)
      enough =
          terms_natural (values found.y) 0 l.terms
          (λ j t e.
          let r = tight_bounds j t e in
          let b : bounds (with_tags 0 l.terms told.state) t ≡ Some r.0 = ap unsigned_bounds (same_held (place_of t)) ∙ r.1 in
          let inside = (within (with_tags 0 l.terms told.state) found.y described' j t r.0 e b).1 in
          let good : is_bad_limit (Some tight.value) t.measure t ≡ false = ap (λ o. is_bad_limit o t.measure t) (sym tight.is_there) ∙ (bad j t e).1 in
          subst (λ n. pos 0 ≤ℤ term_value t (values found.y n)) (omega arith) (limited tight.value t r.0 (get_or found.y j 0) r.1 (omega (arith, ints)) good))

      budget : (n : ℕ) × (budget_value (budget_of l) (values found.y) ≡ pos n)
      budget = let h = enough in natural (budget_value (budget_of l) (values found.y)) (omega (arith, ints))
