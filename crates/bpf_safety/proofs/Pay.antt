-- Budgets at their least and greatest, and slack that isn't negative.
use Rattle.std.proofs.Common.{◌≡◌, ℕ, suc, ◌+◌, refl, sym, ap, ◌∙◌, subst, arith, ℤ, pos, ◌+ℤ◌, ◌-ℤ◌, ◌≤ℤ◌, int_lt, false, List, [], ◌∷◌, slice_get, Option, Some, None, is_some, option_map, option_and_then}
use Rattle.std.proofs.lemmas.Bool.{false≢true}
use Rattle.std.proofs.lemmas.Int.{ints}
use Rattle.bpf_num.specs.Interval.{Interval}
use Rattle.bpf_num.specs.Laws.IntegerLaws.{least_at_end}
use Rattle.bpf_state.specs.State.{AbstractState}
use Rattle.bpf_state.specs.declared.known.Tag.{Tag}
use Rattle.bpf_cert.specs.declared.certificate.Term.{Term}
use Rattle.bpf_safety.specs.Budget.{Budget}
use Rattle.bpf_state.specs.State.{tag as tag_of}
use Rattle.bpf_safety.specs.Budget.{budget_value, terms_value, term_value, InBox, place_of, bounds, sum_if, each_term, least_at_ends, greatest_at_ends, least_budget, greatest_budget, least_slack, free_part, shares}
use Rattle.bpf_safety.specs.Flaw.{is_negative_if}
use Rattle.bpf_safety.proofs.Basics.{some_is}
use Rattle.bpf_safety.proofs.SlackLaws.{term_affine}
use Rattle.bpf_safety.proofs.Here.{HasBounds}

pub not_negative : (o : Option ℤ) (z : ℤ) → is_negative_if o ≡ false → o ≡ Some z → pos 0 ≤ℤ z
not_negative o z h e = let f : int_lt z (pos 0) ≡ false = sym (ap is_negative_if e) ∙ h in grind (arith, ints)

-- a sum whose parts are all there
sum_there : (f : ℕ → Term → Option ℤ) (k : ℕ) (ts : List Term) → ((j : ℕ) (t : Term) → slice_get ts j ≡ Some t → (z : ℤ) × (f (k + j) t ≡ Some z)) → (z : ℤ) × (sum_if (each_term f k ts) ≡ Some z)
sum_there f k [] h = (pos 0, refl)
sum_there f k (t ∷ ts) h =
    let first : (z : ℤ) × (f k t ≡ Some z) = subst (λ n. (z : ℤ) × (f n t ≡ Some z)) (omega arith) (h 0 t refl) in
    let rest = sum_there f (suc k) ts (λ j u e. subst (λ n. (z : ℤ) × (f n u ≡ Some z)) (omega arith) (h (suc j) u e)) in
    (first.0 +ℤ rest.0, ap (λ o. option_and_then (λ a. option_map (λ b. a +ℤ b) (sum_if (each_term f (suc k) ts))) o) first.1 ∙ ap (λ o. option_map (λ b. first.0 +ℤ b) o) rest.1)

-- and is at most, and at least, what is below and above each part
sum_below : (f : ℕ → Term → Option ℤ) (x : ℕ → ℤ) (k : ℕ) (ts : List Term) (z : ℤ) → sum_if (each_term f k ts) ≡ Some z → ((j : ℕ) (t : Term) (a : ℤ) → slice_get ts j ≡ Some t → f (k + j) t ≡ Some a → a ≤ℤ term_value t (x (k + j))) → z ≤ℤ terms_value k ts x
sum_below f x k [] z e h = let s = some_is (pos 0) z e in omega (arith, ints)
sum_below f x k (t ∷ ts) z e h = by_parts (f k t) (sum_if (each_term f (suc k) ts)) refl refl e (λ b g. sum_below f x (suc k) ts b g (λ j u a d i. subst (λ n. a ≤ℤ term_value u (x n)) (omega arith) (h (suc j) u a d (subst (λ n. f n u ≡ Some a) (omega arith) i))))
  where
    by_parts : (o q : Option ℤ) → f k t ≡ o → sum_if (each_term f (suc k) ts) ≡ q → option_and_then (λ a. option_map (λ b. a +ℤ b) q) o ≡ Some z → ((b : ℤ) → sum_if (each_term f (suc k) ts) ≡ Some b → b ≤ℤ terms_value (suc k) ts x) → z ≤ℤ (term_value t (x k) +ℤ terms_value (suc k) ts x)
    by_parts (Some a) (Some b) i g e later =
        let first : a ≤ℤ term_value t (x k) = subst (λ n. a ≤ℤ term_value t (x n)) (omega arith) (h 0 t a refl (subst (λ n. f n t ≡ Some a) (omega arith) i)) in
        let rest = later b g in
        let s = some_is (a +ℤ b) z e in
        omega (arith, ints)
    by_parts (Some a) None i g e later = absurd (false≢true (ap is_some e))
    by_parts None q i g e later = absurd (false≢true (ap is_some e))

sum_above : (f : ℕ → Term → Option ℤ) (x : ℕ → ℤ) (k : ℕ) (ts : List Term) (z : ℤ) → sum_if (each_term f k ts) ≡ Some z → ((j : ℕ) (t : Term) (a : ℤ) → slice_get ts j ≡ Some t → f (k + j) t ≡ Some a → term_value t (x (k + j)) ≤ℤ a) → terms_value k ts x ≤ℤ z
sum_above f x k [] z e h = let s = some_is (pos 0) z e in omega (arith, ints)
sum_above f x k (t ∷ ts) z e h = by_parts (f k t) (sum_if (each_term f (suc k) ts)) refl refl e (λ b g. sum_above f x (suc k) ts b g (λ j u a d i. subst (λ n. term_value u (x n) ≤ℤ a) (omega arith) (h (suc j) u a d (subst (λ n. f n u ≡ Some a) (omega arith) i))))
  where
    by_parts : (o q : Option ℤ) → f k t ≡ o → sum_if (each_term f (suc k) ts) ≡ q → option_and_then (λ a. option_map (λ b. a +ℤ b) q) o ≡ Some z → ((b : ℤ) → sum_if (each_term f (suc k) ts) ≡ Some b → terms_value (suc k) ts x ≤ℤ b) → (term_value t (x k) +ℤ terms_value (suc k) ts x) ≤ℤ z
    by_parts (Some a) (Some b) i g e later =
        let first : term_value t (x k) ≤ℤ a = subst (λ n. term_value t (x n) ≤ℤ a) (omega arith) (h 0 t a refl (subst (λ n. f n t ≡ Some a) (omega arith) i)) in
        let rest = later b g in
        let s = some_is (a +ℤ b) z e in
        omega (arith, ints)
    by_parts (Some a) None i g e later = absurd (false≢true (ap is_some e))
    by_parts None q i g e later = absurd (false≢true (ap is_some e))

mapped : (f : Interval → ℤ) (o : Option Interval) (r : Interval) → o ≡ Some r → option_map f o ≡ Some (f r)
mapped f o r e = ap (option_map f) e

-- the least and the greatest budget
pub record IsLeastBudget (b : Budget) (s : AbstractState) (x : ℕ → ℤ) : Type 0 where
  pub least : ℤ
  pub is_there : least_budget b s ≡ Some least
  pub below : least ≤ℤ budget_value b x

pub least_is : (b : Budget) (s : AbstractState) (x : ℕ → ℤ) → HasBounds s b.terms → InBox s b.terms x → IsLeastBudget b s x
least_is b s x has inside =
    let f : ℕ → Term → Option ℤ = λ j t. option_map (least_at_ends (term_value t)) (bounds s t) in
    let sum = sum_there f 0 b.terms (λ j t e. let r = has j t e in (least_at_ends (term_value t) r.0, mapped (least_at_ends (term_value t)) (bounds s t) r.0 r.1)) in
    let below = sum_below f x 0 b.terms sum.0 sum.1 (λ j t a e i.
    let r = has j t e in
    let v = some_is (least_at_ends (term_value t) r.0) a (sym (mapped (least_at_ends (term_value t)) (bounds s t) r.0 r.1) ∙ i) in
    let box : (pos r.0.lo ≤ℤ x (0 + j)) × (x (0 + j) ≤ℤ pos r.0.hi) = subst (λ n. (pos r.0.lo ≤ℤ x n) × (x n ≤ℤ pos r.0.hi)) (omega arith) (inside j t r.0 e r.1) in
    let ends = (least_at_end (term_value t) (term_affine t) (pos r.0.lo) (x (0 + j)) (pos r.0.hi) box.0 box.1).0 in
    omega (arith, ints)) in
    record { least = pos b.base +ℤ sum.0; is_there = ap (option_map (λ z. pos b.base +ℤ z)) sum.1; below = omega (arith, ints) }

pub record IsGreatestBudget (b : Budget) (s : AbstractState) (x : ℕ → ℤ) : Type 0 where
  pub greatest : ℤ
  pub is_there : greatest_budget b s ≡ Some greatest
  pub above : budget_value b x ≤ℤ greatest

pub greatest_is : (b : Budget) (s : AbstractState) (x : ℕ → ℤ) → HasBounds s b.terms → InBox s b.terms x → IsGreatestBudget b s x
greatest_is b s x has inside =
    let f : ℕ → Term → Option ℤ = λ j t. option_map (greatest_at_ends (term_value t)) (bounds s t) in
    let sum = sum_there f 0 b.terms (λ j t e. let r = has j t e in (greatest_at_ends (term_value t) r.0, mapped (greatest_at_ends (term_value t)) (bounds s t) r.0 r.1)) in
    let above = sum_above f x 0 b.terms sum.0 sum.1 (λ j t a e i.
    let r = has j t e in
    let v = some_is (greatest_at_ends (term_value t) r.0) a (sym (mapped (greatest_at_ends (term_value t)) (bounds s t) r.0 r.1) ∙ i) in
    let box : (pos r.0.lo ≤ℤ x (0 + j)) × (x (0 + j) ≤ℤ pos r.0.hi) = subst (λ n. (pos r.0.lo ≤ℤ x n) × (x n ≤ℤ pos r.0.hi)) (omega arith) (inside j t r.0 e r.1) in
    let ends = (least_at_end (term_value t) (term_affine t) (pos r.0.lo) (x (0 + j)) (pos r.0.hi) box.0 box.1).1 in
    omega (arith, ints)) in
    record { greatest = pos b.base +ℤ sum.0; is_there = ap (option_map (λ z. pos b.base +ℤ z)) sum.1; above = omega (arith, ints) }

-- the slack is there
pub slack_there : (old : Budget) (at_label : AbstractState) (cost : ℤ) (edge : AbstractState) (new : Budget) → HasBounds at_label old.terms → HasBounds edge new.terms → (z : ℤ) × (least_slack old at_label cost edge new ≡ Some z)
slack_there old at_label cost edge new has edge_has =
    let f : ℕ → Term → Option ℤ = λ j t. option_map (least_at_ends (λ x. term_value t x -ℤ shares j x edge new.terms)) (bounds at_label t) in
    let g : ℕ → Term → Option ℤ = λ j t. free_part edge (tag_of edge (place_of t)) t in
    let kept = sum_there f 0 old.terms (λ j t e. let r = has j t e in (least_at_ends (λ x. term_value t x -ℤ shares (0 + j) x edge new.terms) r.0, mapped (least_at_ends (λ x. term_value t x -ℤ shares (0 + j) x edge new.terms)) (bounds at_label t) r.0 r.1)) in
    let free = sum_there g 0 new.terms (λ j t e. by_tag (tag_of edge (place_of t)) t (edge_has j t e)) in (
      ((((pos old.base -ℤ cost) -ℤ pos new.base) +ℤ kept.0) -ℤ free.0),
      ap (λ o. option_and_then (λ k. option_map (λ u. (((pos old.base -ℤ cost) -ℤ pos new.base) +ℤ k) -ℤ u) (sum_if (each_term g 0 new.terms))) o) kept.1
          ∙ ap (λ o. option_map (λ u. (((pos old.base -ℤ cost) -ℤ pos new.base) +ℤ kept.0) -ℤ u) o) free.1,
    )
  where
    by_tag : (tag : Option Tag) (t : Term) → (r : Interval) × (bounds edge t ≡ Some r) → (z : ℤ) × (free_part edge tag t ≡ Some z)
    by_tag (Some tag) t h = (pos 0, refl)
    by_tag None t h = (greatest_at_ends (term_value t) h.0, mapped (greatest_at_ends (term_value t)) (bounds edge t) h.0 h.1)
