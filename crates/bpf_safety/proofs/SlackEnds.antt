-- The least slack is reached: at the ends of the intervals the old budget is no more than it keeps and gives, and the new one no less
-- than it takes.
use Rattle.std.proofs.Common.{◌≡◌, ℕ, zero, suc, ◌+◌, ◌-◌, ◌≤◌, ◌<◌, ◌⊎◌, inl, inr, ℤ, pos, ◌+ℤ◌, ◌-ℤ◌, ◌≤ℤ◌, int_lt, refl, sym, ◌∙◌, ap, subst, arith, List, [], ◌∷◌, length, get_or, Option, Some, None, Bool, true, false, cond}
use Rattle.std.specs.Prelude.{slice_get, option_map, option_and_then, is_some}
use Rattle.std.proofs.lemmas.Int.{ints}
use Rattle.std.proofs.lemmas.Bool.{false≢true, cases_order}
use Rattle.bpf_num.specs.Interval.{Interval}
use Rattle.bpf_state.specs.declared.known.RegState.{RegState}
use Rattle.bpf_state.specs.declared.known.RegState.TheVariants.{Any, Num, Ptr}
use Rattle.bpf_state.specs.declared.known.SlotState.{SlotState}
use Rattle.bpf_state.specs.declared.known.SlotState.TheVariants.{Bytes, Word, Spilled}
use Rattle.bpf_state.specs.declared.known.Place.{Place}
use Rattle.bpf_state.specs.declared.known.Place.TheVariants.{Register, Slot}
use Rattle.bpf_state.specs.declared.known.Tag.{Tag}
use Rattle.bpf_state.specs.State.{AbstractState, register, slot, slot_value, IsAbstract, IsAbstractRegister, IsAbstractSlot}
use Rattle.bpf_cert.specs.declared.certificate.Term.{Term}
use Rattle.bpf_state.specs.Held.{held}
use Rattle.bpf_state.specs.State.{tag as tag_of}
use Rattle.bpf_safety.specs.Budget.{Budget, unsigned_bounds, place_of, bounds, term_value, terms_value, budget_value, least_at_ends, greatest_at_ends, sum_if, shares, free_part, least_slack, AllowedBy, InBox, OnEdge, HaveTagsOf, Pays}
use Rattle.bpf_safety.specs.Theorems.{SlackIsLeast}
use Rattle.bpf_safety.proofs.Basics.{some_is}
use Rattle.bpf_safety.proofs.SlackLaws.{parts, from_bounds, all_shares, all_shares-cons, all_shares-nil, all_share, tagged, untagged, free_parts, kept_parts, slack_pays}

-- ---- the bounds of a state are intervals

register_ordered : (v : RegState) (r : Interval) → IsAbstractRegister v → unsigned_bounds v ≡ Some r → r.lo ≤ r.hi
register_ordered (Num n) r is e = subst (λ i. i.lo ≤ i.hi) (some_is n.unsigned r e) is.unsigned.ordered
register_ordered Any r is e = absurd (false≢true (ap is_some e))
register_ordered (Ptr p) r is e = absurd (false≢true (ap is_some e))

slot_ordered : (v : SlotState) (r : Interval) → IsAbstractSlot v → unsigned_bounds (slot_value v) ≡ Some r → r.lo ≤ r.hi
slot_ordered (Word n) r is e = register_ordered (Num n) r is e
slot_ordered (Bytes mask) r is e = absurd (false≢true (ap is_some e))
slot_ordered (Spilled p) r is e = absurd (false≢true (ap is_some e))

-- there are no slots but 1 to 64
no_slot : (xs : List SlotState) (i : ℕ) → length xs ≤ i → get_or xs i (Bytes 0) ≡ Bytes 0
no_slot [] i le = refl
no_slot (x ∷ xs) zero le = absurd (omega arith)
no_slot (x ∷ xs) (suc i) le = no_slot xs i (omega arith)

held_ordered : (s : AbstractState) (place : Place) (r : Interval) → IsAbstract s → unsigned_bounds (held s place) ≡ Some r → r.lo ≤ r.hi
held_ordered s (Register q) r is e = register_ordered (register s q) r (is.registers q) e
held_ordered s (Slot zero) r is e = slot_ordered (slot s 1) r (is.slots 1 (omega arith) (omega arith)) e
held_ordered s (Slot (suc k)) r is e = by_order (cases_order k 64)
  where
    past : 64 ≤ k → r.lo ≤ r.hi
    past le = let long = is.slots_are in absurd (false≢true (ap is_some (sym (ap (λ v. unsigned_bounds (slot_value v)) (no_slot s.slots (suc k - 1) (omega arith))) ∙ e)))

    by_order : (k ≡ 64) ⊎ ((k < 64) ⊎ (64 < k)) → r.lo ≤ r.hi
    by_order (inl same) = past (omega arith)
    by_order (inr (inl less)) = slot_ordered (slot s (suc k)) r (is.slots (suc k) (omega arith) (omega arith)) e
    by_order (inr (inr more)) = past (omega arith)

-- ---- the ends at which a function is least and greatest

least_end : (ℤ → ℤ) → Interval → ℤ
least_end f r = cond (int_lt (f (pos r.hi)) (f (pos r.lo))) (pos r.hi) (pos r.lo)

greatest_end : (ℤ → ℤ) → Interval → ℤ
greatest_end f r = cond (int_lt (f (pos r.hi)) (f (pos r.lo))) (pos r.lo) (pos r.hi)

either : (f : ℤ → ℤ) (b : Bool) (u v : ℤ) → f (cond b u v) ≡ cond b (f u) (f v)
either f true u v = refl
either f false u v = refl

least_there : (f : ℤ → ℤ) (r : Interval) → f (least_end f r) ≡ least_at_ends f r
unfolding least_end
least_there f r = either f (int_lt (f (pos r.hi)) (f (pos r.lo))) (pos r.hi) (pos r.lo)

greatest_there : (f : ℤ → ℤ) (r : Interval) → f (greatest_end f r) ≡ greatest_at_ends f r
unfolding greatest_end
greatest_there f r = either f (int_lt (f (pos r.hi)) (f (pos r.lo))) (pos r.lo) (pos r.hi)

abbrev IsInside : Interval → ℤ → Type 0
IsInside r x = (pos r.lo ≤ℤ x) × (x ≤ℤ pos r.hi)

inside_either : (r : Interval) (b : Bool) → r.lo ≤ r.hi → IsInside r (cond b (pos r.hi) (pos r.lo)) × IsInside r (cond b (pos r.lo) (pos r.hi))
inside_either r true le = ((omega (arith, ints), omega (arith, ints)), (omega (arith, ints), omega (arith, ints)))
inside_either r false le = ((omega (arith, ints), omega (arith, ints)), (omega (arith, ints), omega (arith, ints)))

least_inside : (f : ℤ → ℤ) (r : Interval) → r.lo ≤ r.hi → IsInside r (least_end f r)
unfolding least_end
least_inside f r le = (inside_either r (int_lt (f (pos r.hi)) (f (pos r.lo))) le).0

greatest_inside : (f : ℤ → ℤ) (r : Interval) → r.lo ≤ r.hi → IsInside r (greatest_end f r)
unfolding greatest_end
greatest_inside f r le = (inside_either r (int_lt (f (pos r.hi)) (f (pos r.lo))) le).1

-- what an old term keeps where its place has the value v
kept_of : AbstractState → List Term → ℕ → Term → ℤ → ℤ
kept_of edge new j t v = term_value t v -ℤ shares j v edge new

-- ---- the sums at these ends

-- an old term at its least, with what the new ones take of it
old_terms_at : (x : ℕ → ℤ) (at_label edge : AbstractState) (new : List Term) (j : ℕ) (os : List Term) (kept : ℤ) → ((i : ℕ) (t : Term) (r : Interval) → slice_get os i ≡ Some t → bounds at_label t ≡ Some r → kept_of edge new (j + i) t (x (j + i)) ≡ least_at_ends (kept_of edge new (j + i) t) r) → sum_if (kept_parts at_label edge new j os) ≡ Some kept → terms_value j os x ≡ kept +ℤ all_shares j os x edge new
unfolding kept_of
old_terms_at x at_label edge new j [] kept at e = let z = some_is (pos 0) kept e in omega (arith, ints)
old_terms_at x at_label edge new j (t ∷ os) kept at e =
    let f : ℤ → ℤ = λ v. term_value t v -ℤ shares j v edge new in
    let p = parts (option_map (least_at_ends f) (bounds at_label t)) (kept_parts at_label edge new (suc j) os) kept e in
    let b = from_bounds (least_at_ends f) (bounds at_label t) p.head p.head_is in
    let here : f (x j) ≡ least_at_ends f b.range = subst (λ n. term_value t (x n) -ℤ shares n (x n) edge new ≡ least_at_ends (λ v. term_value t v -ℤ shares n v edge new) b.range) (omega arith) (at 0 t b.range refl b.is_there) in
    let rest = old_terms_at x at_label edge new (suc j) os p.tail (λ i u r h g. subst (λ n. term_value u (x n) -ℤ shares n (x n) edge new ≡ least_at_ends (λ v. term_value u v -ℤ shares n v edge new) r) (omega arith) (at (suc i) u r h g)) p.tail_is in
    let z = p.sum_is in
    let v = b.value_is in
    omega (arith, ints)

-- a new term at its greatest, or where its tag says
new_term_at : (os : List Term) (x : ℕ → ℤ) (edge : AbstractState) (t : Term) (y free : ℤ) (tag : Option Tag) → ((g : Tag) → tag ≡ Some g → y ≡ x g.term +ℤ g.offset) → (tag ≡ None → (r : Interval) → bounds edge t ≡ Some r → term_value t y ≡ greatest_at_ends (term_value t) r) → ((g : Tag) → tag ≡ Some g → g.term < length os) → free_part edge tag t ≡ Some free → term_value t y ≡ all_share 0 os x tag t +ℤ free
new_term_at os x edge t y free (Some g) moved at below e =
    let lt = below g refl in
    let whole = tagged 0 os x g t (omega arith) (omega arith) in
    let z = some_is (pos 0) free e in
    let v : term_value t y ≡ term_value t (x g.term +ℤ g.offset) = ap (term_value t) (moved g refl) in
    omega (arith, ints)
new_term_at os x edge t y free None moved at below e =
    let b = from_bounds (greatest_at_ends (term_value t)) (bounds edge t) free e in
    let there = at refl b.range b.is_there in
    let s = untagged 0 os x t in
    let v = b.value_is in
    omega (arith, ints)

new_terms_at : (os : List Term) (x y : ℕ → ℤ) (edge : AbstractState) (k : ℕ) (ts : List Term) (free : ℤ) → ((i : ℕ) (t : Term) (g : Tag) → slice_get ts i ≡ Some t → tag_of edge (place_of t) ≡ Some g → y (k + i) ≡ x g.term +ℤ g.offset) → ((i : ℕ) (t : Term) (r : Interval) → slice_get ts i ≡ Some t → tag_of edge (place_of t) ≡ None → bounds edge t ≡ Some r → term_value t (y (k + i)) ≡ greatest_at_ends (term_value t) r) → ((i : ℕ) (t : Term) (g : Tag) → slice_get ts i ≡ Some t → tag_of edge (place_of t) ≡ Some g → g.term < length os) → sum_if (free_parts edge k ts) ≡ Some free → terms_value k ts y ≡ all_shares 0 os x edge ts +ℤ free
new_terms_at os x y edge k [] free moved at below e = let z = some_is (pos 0) free e in let s = all_shares-nil 0 os x edge in omega (arith, ints)
new_terms_at os x y edge k (t ∷ ts) free moved at below e =
    let p = parts (free_part edge (tag_of edge (place_of t)) t) (free_parts edge (suc k) ts) free e in
    let first = new_term_at os x edge t (y k) p.head (tag_of edge (place_of t)) (λ g h. subst (λ n. y n ≡ x g.term +ℤ g.offset) (omega arith) (moved 0 t g refl h)) (λ h r b. subst (λ n. term_value t (y n) ≡ greatest_at_ends (term_value t) r) (omega arith) (at 0 t r refl h b)) (λ g h. below 0 t g refl h) p.head_is in
    let rest = new_terms_at os x y edge (suc k) ts p.tail (λ i u g h w. subst (λ n. y n ≡ x g.term +ℤ g.offset) (omega arith) (moved (suc i) u g h w)) (λ i u r h w b. subst (λ n. term_value u (y n) ≡ greatest_at_ends (term_value u) r) (omega arith) (at (suc i) u r h w b)) (λ i u g h. below (suc i) u g h) p.tail_is in
    let swap = all_shares-cons 0 os x edge t ts in
    let z = p.sum_is in
    omega (arith, ints)

-- ---- values at which the slack is least

pick : {A : Type 0} → (A → ℤ) → Option A → ℤ
pick f None = pos 0
pick f (Some a) = f a

-- each old place at an end
lows : AbstractState → AbstractState → List Term → List Term → ℕ → ℤ
lows at_label edge new old j = pick (λ t. pick (least_end (kept_of edge new j t)) (bounds at_label t)) (slice_get old j)

low_is : (at_label edge : AbstractState) (new old : List Term) (j : ℕ) (t : Term) (r : Interval) → slice_get old j ≡ Some t → bounds at_label t ≡ Some r → lows at_label edge new old j ≡ least_end (kept_of edge new j t) r
unfolding lows pick
low_is at_label edge new old j t r e b = ap (λ o. pick (λ t. pick (least_end (kept_of edge new j t)) (bounds at_label t)) o) e ∙ ap (λ o. pick (least_end (kept_of edge new j t)) o) b

-- each new place where its tag says, or at an end
high_at : AbstractState → (ℕ → ℤ) → Option Tag → Term → ℤ
high_at edge x (Some g) t = x g.term +ℤ g.offset
high_at edge x None t = pick (greatest_end (term_value t)) (bounds edge t)

highs : AbstractState → (ℕ → ℤ) → List Term → ℕ → ℤ
highs edge x new k = pick (λ t. high_at edge x (tag_of edge (place_of t)) t) (slice_get new k)

high_is : (edge : AbstractState) (x : ℕ → ℤ) (new : List Term) (k : ℕ) (t : Term) (tag : Option Tag) → slice_get new k ≡ Some t → tag_of edge (place_of t) ≡ tag → highs edge x new k ≡ high_at edge x tag t
unfolding highs pick
high_is edge x new k t tag e g = ap (λ o. pick (λ t. high_at edge x (tag_of edge (place_of t)) t) o) e ∙ ap (λ o. high_at edge x o t) g

tagged_is : (edge : AbstractState) (x : ℕ → ℤ) (new : List Term) (k : ℕ) (t : Term) (g : Tag) → slice_get new k ≡ Some t → tag_of edge (place_of t) ≡ Some g → highs edge x new k ≡ x g.term +ℤ g.offset
unfolding high_at
tagged_is edge x new k t g e h = high_is edge x new k t (Some g) e h

free_is : (edge : AbstractState) (x : ℕ → ℤ) (new : List Term) (k : ℕ) (t : Term) (r : Interval) → slice_get new k ≡ Some t → tag_of edge (place_of t) ≡ None → bounds edge t ≡ Some r → highs edge x new k ≡ greatest_end (term_value t) r
unfolding high_at pick
free_is edge x new k t r e h b = high_is edge x new k t None e h ∙ ap (λ o. pick (greatest_end (term_value t)) o) b

-- ---- the law

pub pays_slack : (old new : Budget) (at_label edge : AbstractState) (cost slack : ℤ) → IsAbstract at_label → IsAbstract edge → HaveTagsOf (length old.terms) edge new.terms → least_slack old at_label cost edge new ≡ Some slack → Pays old at_label cost edge new → pos 0 ≤ℤ slack
pays_slack old new at_label edge cost slack valid valid' below e pays =
    go (sum_if (kept_parts at_label edge new.terms 0 old.terms)) (sum_if (free_parts edge 0 new.terms)) refl refl e
  where
    x : ℕ → ℤ
    x = lows at_label edge new.terms old.terms

    y : ℕ → ℤ
    y = highs edge x new.terms

    in_box : InBox at_label old.terms x
    in_box j t r h b = subst (IsInside r) (sym (low_is at_label edge new.terms old.terms j t r h b)) (least_inside (kept_of edge new.terms j t) r (held_ordered at_label (place_of t) r valid b))

    on_edge : OnEdge edge new.terms x y
    on_edge k t h = by_tag (tag_of edge (place_of t)) refl
      where
        by_tag : (tag : Option Tag) → tag_of edge (place_of t) ≡ tag → AllowedBy edge x tag t (y k)
        by_tag (Some g) w = tagged_is edge x new.terms k t g h w
        by_tag None w = λ r b. subst (IsInside r) (sym (free_is edge x new.terms k t r h w b)) (greatest_inside (term_value t) r (held_ordered edge (place_of t) r valid' b))

    go : (a b : Option ℤ) → sum_if (kept_parts at_label edge new.terms 0 old.terms) ≡ a → sum_if (free_parts edge 0 new.terms) ≡ b
        → option_and_then (λ kept. option_map (λ free. (((pos old.base -ℤ cost) -ℤ pos new.base) +ℤ kept) -ℤ free) b) a ≡ Some slack
        → pos 0 ≤ℤ slack
    go (Some kept) (Some free) f g h =
        let z = some_is ((((pos old.base -ℤ cost) -ℤ pos new.base) +ℤ kept) -ℤ free) slack h in
        let low = old_terms_at x at_label edge new.terms 0 old.terms kept (λ i t r u b. subst (λ n. kept_of edge new.terms n t (x n) ≡ least_at_ends (kept_of edge new.terms n t) r) (omega arith) (ap (kept_of edge new.terms i t) (low_is at_label edge new.terms old.terms i t r u b) ∙ least_there (kept_of edge new.terms i t) r)) f in
        let high = new_terms_at old.terms x y edge 0 new.terms free (λ i t k u w. subst (λ n. y n ≡ x k.term +ℤ k.offset) (omega arith) (tagged_is edge x new.terms i t k u w)) (λ i t r u w b. subst (λ n. term_value t (y n) ≡ greatest_at_ends (term_value t) r) (omega arith) (ap (term_value t) (free_is edge x new.terms i t r u w b) ∙ greatest_there (term_value t) r)) below g in
        let all : (cost +ℤ budget_value new y) ≤ℤ budget_value old x = pays x y in_box on_edge in
        omega (arith, ints)
    go (Some kept) None f g h = absurd (false≢true (ap is_some h))
    go None b f g h = absurd (false≢true (ap is_some h))

pub slack_is_least : SlackIsLeast
slack_is_least old new at_label edge cost slack valid valid' below e = (slack_pays old new at_label edge cost slack below e, pays_slack old new at_label edge cost slack valid valid' below e)
