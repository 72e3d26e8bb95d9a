-- Sums of budgets, and that they fit 128 bits.
use Rattle.std.proofs.Common.{◌≡◌, ℕ, ◌+◌, ◌*◌, ◌^◌, ◌<◌, ◌≤◌, true, List, ◌∷◌, length, drop, get_or, Option, Some, None, refl, sym, ap, subst, ◌∙◌, arith, ℤ, ◌+ℤ◌}
use Rattle.std.specs.Prelude.{option_map, option_and_then, IfSome}
use Rattle.std.specs.Int.{w128, cast_signed, cast_unsigned}
use Rattle.std.proofs.lemmas.Int.{ints}
use Rattle.std.proofs.lemmas.Bool.{and_parts, leb-true}
use Rattle.std.proofs.lemmas.List.{at_drop_more, get_or_default}
use Rattle.std.specs.List.{list_all}
use Rattle.bpf_state.specs.State.{AbstractState, tag}
use Rattle.bpf_state.specs.declared.known.Tag.{Tag}
use Rattle.bpf_state.specs.declared.known.Place.{Place}
use Rattle.bpf_cert.specs.declared.certificate.Term.{Term}
use Rattle.bpf_cert.specs.View.{LabelView}
use Rattle.bpf_cert.specs.Limits.{is_limited_label, is_limited_term}
use Rattle.bpf_safety.specs.Budget.{sum_if, each_term, shares, share_of, place_of, bounds, term_value, greatest_at_ends, least_at_ends}
use Rattle.bpf_num.specs.Interval.{Interval}
use Rattle.std.specs.Prelude.{◌-ℤ◌}
use Rattle.bpf_check.specs.code.Slack.{IsWithin, kept_part}
use Rattle.bpf_check.proofs.SearchLemmas.{list_all_get}

pub terms_limited : (l : LabelView) → is_limited_label l ≡ true → list_all is_limited_term l.terms ≡ true
terms_limited l h = (and_parts _ _ h).1

pub few_terms : (l : LabelView) → is_limited_label l ≡ true → length l.terms ≤ 4
few_terms l h = leb-true _ _ (and_parts _ _ (and_parts _ _ h).0).1

pub low_base : (l : LabelView) → is_limited_label l ≡ true → l.base ≤ 2 ^ 40
low_base l h = leb-true _ _ (and_parts _ _ (and_parts _ _ (and_parts _ _ h).0).0).1

-- ---- sums term by term

-- what was summed, and the parts from the term i on
abbrev pub rest_sum : (ℕ → Term → Option ℤ) → ℤ → ℕ → List Term → Option ℤ
rest_sum f sum i ts = option_map (λ z. sum +ℤ z) (sum_if (each_term f i (drop i ts)))

next_term : (f : ℕ → Term → Option ℤ) (i : ℕ) (ts : List Term) (d : Term) → i < length ts → each_term f i (drop i ts) ≡ f i (get_or ts i d) ∷ each_term f (i + 1) (drop (i + 1) ts)
next_term f i ts d h =
    at_drop_more (each_term f i) ts i d h
    ∙ ap (λ k. f i (get_or ts i d) ∷ each_term f k (drop (i + 1) ts)) (omega arith)

add_part : (sum a : ℤ) (o : Option ℤ) → option_map (λ z. sum +ℤ z) (option_map (λ b. a +ℤ b) o) ≡ option_map (λ z. (sum +ℤ a) +ℤ z) o
add_part sum a None = refl
add_part sum a (Some b) = ap (λ z. Some z) (omega (arith, ints))

pub rest_step : (f : ℕ → Term → Option ℤ) (sum : ℤ) (i : ℕ) (ts : List Term) (d : Term) (a : ℤ) → i < length ts → f i (get_or ts i d) ≡ Some a → rest_sum f sum i ts ≡ rest_sum f (sum +ℤ a) (i + 1) ts
rest_step f sum i ts d a h part =
    ap (λ l. option_map (λ z. sum +ℤ z) (sum_if l)) (next_term f i ts d h)
    ∙ ap (λ o. option_map (λ z. sum +ℤ z) (option_and_then (λ x. option_map (λ b. x +ℤ b) (sum_if (each_term f (i + 1) (drop (i + 1) ts)))) o)) part
    ∙ add_part sum a (sum_if (each_term f (i + 1) (drop (i + 1) ts)))

-- ---- the sums of budgets

abbrev pub greatest_part : AbstractState → ℕ → Term → Option ℤ
greatest_part s j t = option_map (greatest_at_ends (term_value t)) (bounds s t)

abbrev pub least_part : AbstractState → ℕ → Term → Option ℤ
least_part s j t = option_map (least_at_ends (term_value t)) (bounds s t)

pub sum_within : (n : ℕ) (k : ℕ) (sum a : ℤ) → k < 4 → n ≤ 2 ^ 88 → IsWithin (n + k * 2 ^ 90) sum → IsWithin (2 ^ 90) a → IsWithin (n + (k + 1) * 2 ^ 90) (sum +ℤ a)
sum_within n k sum a few small s t =
    let low = s.low in let high = s.high in let low' = t.low in let high' = t.high in
    record { low = omega (arith, ints); high = omega (arith, ints) }

-- the sum as the code computes it
pub added : (n k : ℕ) (sum a : ℤ) → k < 4 → n ≤ 2 ^ 88 → IsWithin (n + k * 2 ^ 90) sum → IsWithin (2 ^ 90) a → cast_signed w128 (cast_unsigned w128 (sum +ℤ cast_signed w128 (cast_unsigned w128 a))) ≡ sum +ℤ a
added n k sum a few small s t =
    let low = s.low in let high = s.high in let low' = t.low in let high' = t.high in
    omega (arith, ints)

-- the invariant after one more term
pub record IsNext (f : ℕ → Term → Option ℤ) (all : Option ℤ) (n i : ℕ) (ts : List Term) (sum : ℤ) : Type 0 where
  pub value : all ≡ rest_sum f sum (i + 1) ts
  pub small : IsWithin (n + (i + 1) * 2 ^ 90) sum

pub next_sum : (f : ℕ → Term → Option ℤ) (all : Option ℤ) (n i : ℕ) (ts : List Term) (d : Term) (sum a : ℤ) → n ≤ 2 ^ 88 → length ts ≤ 4 → i < length ts → all ≡ rest_sum f sum i ts → IsWithin (n + i * 2 ^ 90) sum → f i (get_or ts i d) ≡ Some a → IsWithin (2 ^ 90) a → IsNext f all n i ts (cast_signed w128 (cast_unsigned w128 (sum +ℤ cast_signed w128 (cast_unsigned w128 a))))
next_sum f all n i ts d sum a small few h value within part within' =
    let is = added n i sum a (omega arith) small within within' in
    record {
      value = value ∙ rest_step f sum i ts d a h part ∙ ap (λ z. rest_sum f z (i + 1) ts) (sym is);
      small = subst (IsWithin (n + (i + 1) * 2 ^ 90)) (sym is) (sum_within n i sum a (omega arith) small within within');
    }

pub limited_term : (ts : List Term) (i : ℕ) (d : Term) → list_all is_limited_term ts ≡ true → i < length ts → is_limited_term (get_or ts i d) ≡ true
limited_term ts i d all h = list_all_get is_limited_term ts i (get_or ts i d) all h (get_or_default ts i d (get_or ts i d) h)

-- the same of a list of a label's terms
pub limited_here : (l : LabelView) (ts : List Term) (i : ℕ) (d : Term) → is_limited_label l ≡ true → ts ≡ l.terms → i < length ts → is_limited_term (get_or ts i d) ≡ true
limited_here l ts i d limited e h = limited_term ts i d (ap (list_all is_limited_term) e ∙ terms_limited l limited) h

pub few_here : (l : LabelView) (ts : List Term) → is_limited_label l ≡ true → ts ≡ l.terms → length ts ≤ 4
few_here l ts limited e = subst (λ xs. length xs ≤ 4) (sym e) (few_terms l limited)

-- ---- what new terms take

assoc : (a b c : ℤ) → a +ℤ (b +ℤ c) ≡ (a +ℤ b) +ℤ c
assoc a b c = omega (arith, ints)

pub record IsNextShare (j : ℕ) (x : ℤ) (edge : AbstractState) (ts : List Term) (i : ℕ) (sum : ℤ) : Type 0 where
  pub value : shares j x edge ts ≡ sum +ℤ shares j x edge (drop (i + 1) ts)
  pub small : IsWithin ((i + 1) * 2 ^ 87) sum

pub next_share : (j : ℕ) (x : ℤ) (edge : AbstractState) (ts : List Term) (i : ℕ) (d : Term) (sum a : ℤ) (t : Option Tag) (p : Place) → length ts ≤ 4 → i < length ts → shares j x edge ts ≡ sum +ℤ shares j x edge (drop i ts) → IsWithin (i * 2 ^ 87) sum → p ≡ place_of (get_or ts i d) → t ≡ tag edge p → a ≡ share_of j x t (get_or ts i d) → IsWithin (2 ^ 87) a → IsNextShare j x edge ts i (cast_signed w128 (cast_unsigned w128 (sum +ℤ cast_signed w128 (cast_unsigned w128 a))))
next_share j x edge ts i d sum a t p few h value within place tagged part within' =
    let low = within.low in let high = within.high in let low' = within'.low in let high' = within'.high in
    let is : cast_signed w128 (cast_unsigned w128 (sum +ℤ cast_signed w128 (cast_unsigned w128 a))) ≡ sum +ℤ a = omega (arith, ints) in
    let whole : a ≡ share_of j x (tag edge (place_of (get_or ts i d))) (get_or ts i d) = part ∙ ap (λ o. share_of j x o (get_or ts i d)) (tagged ∙ ap (tag edge) place) in
    let steps : shares j x edge (drop i ts) ≡ a +ℤ shares j x edge (drop (i + 1) ts) = at_drop_more (shares j x edge) ts i d h ∙ ap (λ z. z +ℤ shares j x edge (drop (i + 1) ts)) (sym whole) in
    let both : sum +ℤ shares j x edge (drop i ts) ≡ (sum +ℤ a) +ℤ shares j x edge (drop (i + 1) ts) = ap (λ z. sum +ℤ z) steps ∙ assoc sum a (shares j x edge (drop (i + 1) ts)) in
    record {
      value = value ∙ both ∙ ap (λ z. z +ℤ shares j x edge (drop (i + 1) ts)) (sym is);
      small = record { low = omega (arith, ints); high = omega (arith, ints) };
    }

pub kept_here : (edge : AbstractState) (new : LabelView) (s : AbstractState) (j : ℕ) (t : Term) (range : Interval) (a : ℤ) (taken : List Term) → Some range ≡ bounds s t → a ≡ least_at_ends (λ x. term_value t x -ℤ shares j x edge taken) range → taken ≡ new.terms → kept_part edge new s j t ≡ Some a
kept_here edge new s j t range a taken there is same =
    ap (option_map (least_at_ends (λ x. term_value t x -ℤ shares j x edge new.terms))) (sym there)
    ∙ ap (λ z. Some z) (sym (is ∙ ap (λ ts. least_at_ends (λ x. term_value t x -ℤ shares j x edge ts) range) same))

same_cost : (slot : ℕ) (z : ℤ) → slot ≤ 65535 → IsWithin (slot * 2 ^ 94) z → IsWithin (slot * 2 ^ 94) (cast_signed w128 (cast_unsigned w128 z))
same_cost slot z few h =
    let low = h.low in let high = h.high in
    let is : cast_signed w128 (cast_unsigned w128 z) ≡ z = omega (arith, ints) in
    subst (IsWithin (slot * 2 ^ 94)) (sym is) h

-- a cost as the code passes it on
pub cost_here : (slot : ℕ) (o : Option ℤ) (z : ℤ) → slot ≤ 65535 → o ≡ Some z → IfSome o (λ y. IsWithin (slot * 2 ^ 94) y) → IsWithin (slot * 2 ^ 94) (cast_signed w128 (cast_unsigned w128 z))
cost_here slot o z few e h = same_cost slot z few (subst (λ p. IfSome p (λ y. IsWithin (slot * 2 ^ 94) y)) e h)
