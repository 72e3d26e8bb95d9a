-- Where the least slack isn't negative, an edge pays everywhere.
use Rattle.std.proofs.Common.{◌≡◌, ℕ, suc, ℤ, pos, ◌+ℤ◌, ◌-ℤ◌, ◌*ℤ◌, ◌≤ℤ◌, ◌+◌, ◌<◌, ◌≤◌, refl, sym, ◌∙◌, ap, subst, arith, List, [], ◌∷◌, length, Option, Some, None, Bool, true, false}
use Rattle.std.specs.Prelude.{◌==◌, cond, slice_get, option_map, option_and_then, is_some}
use Rattle.std.proofs.lemmas.Int.{ints}
use Rattle.std.proofs.lemmas.Bool.{false≢true}
use Rattle.std.proofs.lemmas.Bool.Decides.{nat_tests}
use Rattle.bpf_num.specs.Laws.IntegerLaws.{IsAffine, least_at_end, constant_affine, product_affine, sum_affine, difference_affine, shifted_affine, mul_sub}
use Rattle.bpf_num.specs.Interval.{Interval}
use Rattle.bpf_state.specs.declared.known.Tag.{Tag}
use Rattle.bpf_state.specs.State.{AbstractState}
use Rattle.bpf_cert.specs.declared.certificate.Measure.{Measure}
use Rattle.bpf_cert.specs.declared.certificate.Term.{Term}
use Rattle.bpf_safety.specs.Budget.{Budget}
use Rattle.bpf_cert.specs.declared.certificate.Measure.TheVariants.{Down, Up}
use Rattle.bpf_state.specs.State.{tag as tag_of}
use Rattle.bpf_safety.specs.Budget.{place_of, bounds, measured, term_value, terms_value, budget_value, least_at_ends, greatest_at_ends, sum_if, each_term, share_of, shares, free_part, least_slack, AllowedBy, HaveTagsOf, Pays}
use Rattle.bpf_safety.proofs.Basics.{some_is}

-- ---- sums that are there have their parts

pub record HasParts (x : Option ℤ) (rest : List (Option ℤ)) (z : ℤ) : Type 0 where
  pub head : ℤ
  pub tail : ℤ
  pub head_is : x ≡ Some head
  pub tail_is : sum_if rest ≡ Some tail
  pub sum_is : z ≡ head +ℤ tail

pub parts : (x : Option ℤ) (rest : List (Option ℤ)) (z : ℤ) → sum_if (x ∷ rest) ≡ Some z → HasParts x rest z
parts x rest z h = go x (sum_if rest) refl refl h
  where
    go : (a b : Option ℤ) → x ≡ a → sum_if rest ≡ b → option_and_then (λ u. option_map (λ v. u +ℤ v) b) a ≡ Some z → HasParts x rest z
    go (Some u) (Some v) e f g = record { head = u; tail = v; head_is = e; tail_is = f; sum_is = sym (some_is (u +ℤ v) z g) }
    go (Some u) None e f g = absurd (false≢true (ap is_some g))
    go None b e f g = absurd (false≢true (ap is_some g))

-- a number made from bounds that are there
pub record FromBounds (f : Interval → ℤ) (b : Option Interval) (z : ℤ) : Type 0 where
  pub range : Interval
  pub is_there : b ≡ Some range
  pub value_is : z ≡ f range

pub from_bounds : (f : Interval → ℤ) (b : Option Interval) (z : ℤ) → option_map f b ≡ Some z → FromBounds f b z
from_bounds f b z h = go b refl h
  where
    go : (c : Option Interval) → b ≡ c → option_map f c ≡ Some z → FromBounds f b z
    go (Some r) e g = record { range = r; is_there = e; value_is = sym (some_is (f r) z g) }
    go None e g = absurd (false≢true (ap is_some g))

-- ---- terms and shares are affine

pub term_affine : (t : Term) → IsAffine (term_value t)
term_affine t = by_measure t.measure
  where
    by_measure : (m : Measure) → IsAffine (λ x. pos t.weight *ℤ measured m x)
    by_measure (Down place) = product_affine (pos t.weight)
    by_measure (Up place limit) =
        let d = difference_affine (λ x. pos t.weight *ℤ pos limit) (λ x. pos t.weight *ℤ x) (constant_affine (pos t.weight *ℤ pos limit)) (product_affine (pos t.weight)) in
        record { start = d.start; slope = d.slope; is = λ x. mul_sub (pos t.weight) (pos limit) x ∙ d.is x }

share_affine : (j : ℕ) (tag : Option Tag) (t : Term) → IsAffine (λ x. share_of j x tag t)
share_affine j None t = constant_affine (pos 0)
share_affine j (Some tag) t = by_test (tag.term == j)
  where
    by_test : (b : Bool) → IsAffine (λ x. cond b (term_value t (x +ℤ tag.offset)) (pos 0))
    by_test true = shifted_affine (term_value t) tag.offset (term_affine t)
    by_test false = constant_affine (pos 0)

shares_affine : (j : ℕ) (edge : AbstractState) (ts : List Term) → IsAffine (λ x. shares j x edge ts)
shares_affine j edge [] = constant_affine (pos 0)
shares_affine j edge (t ∷ ts) = sum_affine (λ x. share_of j x (tag_of edge (place_of t)) t) (λ x. shares j x edge ts) (share_affine j (tag_of edge (place_of t)) t) (shares_affine j edge ts)

-- ---- all shares together

-- the shares of the old terms from index j on
abbrev pub all_shares : ℕ → List Term → (ℕ → ℤ) → AbstractState → List Term → ℤ
all_shares j [] x edge new = pos 0
all_shares j (o ∷ os) x edge new = shares j (x j) edge new +ℤ all_shares (suc j) os x edge new

-- the shares that one new term has of them
abbrev pub all_share : ℕ → List Term → (ℕ → ℤ) → Option Tag → Term → ℤ
all_share j [] x tag t = pos 0
all_share j (o ∷ os) x tag t = share_of j (x j) tag t +ℤ all_share (suc j) os x tag t

-- the double sum in the other order
pub all_shares-cons : (j : ℕ) (os : List Term) (x : ℕ → ℤ) (edge : AbstractState) (t : Term) (ts : List Term) → all_shares j os x edge (t ∷ ts) ≡ all_share j os x (tag_of edge (place_of t)) t +ℤ all_shares j os x edge ts
all_shares-cons j [] x edge t ts = refl
all_shares-cons j (o ∷ os) x edge t ts = let e = all_shares-cons (suc j) os x edge t ts in omega (arith, ints)

pub all_shares-nil : (j : ℕ) (os : List Term) (x : ℕ → ℤ) (edge : AbstractState) → all_shares j os x edge [] ≡ pos 0
all_shares-nil j [] x edge = refl
all_shares-nil j (o ∷ os) x edge = let e = all_shares-nil (suc j) os x edge in omega (arith, ints)

-- a term without a tag has no share
pub untagged : (j : ℕ) (os : List Term) (x : ℕ → ℤ) (t : Term) → all_share j os x None t ≡ pos 0
untagged j [] x t = refl
untagged j (o ∷ os) x t = let e = untagged (suc j) os x t in omega (arith, ints)

-- a tag below all indices gives no share
below_all : (j : ℕ) (os : List Term) (x : ℕ → ℤ) (tag : Tag) (t : Term) → tag.term < j → all_share j os x (Some tag) t ≡ pos 0
below_all j [] x tag t lt = refl
below_all j (o ∷ os) x tag t lt =
    let test : (tag.term == j) ≡ false = grind (arith, nat_tests) in
    let e = below_all (suc j) os x tag t (omega arith) in
    let s : share_of j (x j) (Some tag) t ≡ pos 0 = ap (λ b. cond b (term_value t (x j +ℤ tag.offset)) (pos 0)) test in
    omega (arith, ints)

-- a term with a tag has one share, which is all of it
pub tagged : (j : ℕ) (os : List Term) (x : ℕ → ℤ) (tag : Tag) (t : Term) → j ≤ tag.term → tag.term < j + length os → all_share j os x (Some tag) t ≡ term_value t (x tag.term +ℤ tag.offset)
tagged j [] x tag t le lt = absurd (omega arith)
tagged j (o ∷ os) x tag t le lt = by_test (tag.term == j) refl (λ more. tagged (suc j) os x tag t more (omega arith))
  where
    by_test : (b : Bool) → (tag.term == j) ≡ b → (suc j ≤ tag.term → all_share (suc j) os x (Some tag) t ≡ term_value t (x tag.term +ℤ tag.offset)) → share_of j (x j) (Some tag) t +ℤ all_share (suc j) os x (Some tag) t ≡ term_value t (x tag.term +ℤ tag.offset)
    by_test true e later =
        let here : tag.term ≡ j = grind (arith, nat_tests) in
        let s : share_of j (x j) (Some tag) t ≡ term_value t (x j +ℤ tag.offset) = ap (λ b. cond b (term_value t (x j +ℤ tag.offset)) (pos 0)) e in
        let rest = below_all (suc j) os x tag t (omega arith) in
        let same : term_value t (x j +ℤ tag.offset) ≡ term_value t (x tag.term +ℤ tag.offset) = ap (λ n. term_value t (x n +ℤ tag.offset)) (sym here) in
        omega (arith, ints)
    by_test false e later =
        let more : suc j ≤ tag.term = grind (arith, nat_tests) in
        let s : share_of j (x j) (Some tag) t ≡ pos 0 = ap (λ b. cond b (term_value t (x j +ℤ tag.offset)) (pos 0)) e in
        let rest = later more in
        omega (arith, ints)

-- ---- the new budget is at most the shares and the free part

-- the free parts of the new terms from index k on
abbrev pub free_parts : AbstractState → ℕ → List Term → List (Option ℤ)
free_parts edge k ts = each_term (λ i t. free_part edge (tag_of edge (place_of t)) t) k ts

-- a new term is at most its shares and its free part
new_term : (os : List Term) (x : ℕ → ℤ) (edge : AbstractState) (t : Term) (y free : ℤ) (tag : Option Tag) → AllowedBy edge x tag t y → ((g : Tag) → tag ≡ Some g → g.term < length os) → free_part edge tag t ≡ Some free → term_value t y ≤ℤ (all_share 0 os x tag t +ℤ free)
new_term os x edge t y free (Some g) allowed below e =
    let lt = below g refl in
    let whole = tagged 0 os x g t (omega arith) (omega arith) in
    let z = some_is (pos 0) free e in
    let v : term_value t y ≡ term_value t (x g.term +ℤ g.offset) = ap (term_value t) allowed in
    omega (arith, ints)
new_term os x edge t y free None allowed below e =
    let b = from_bounds (greatest_at_ends (term_value t)) (bounds edge t) free e in
    let inside = allowed b.range b.is_there in
    let ends = least_at_end (term_value t) (term_affine t) (pos b.range.lo) y (pos b.range.hi) inside.0 inside.1 in
    let s = untagged 0 os x t in
    let v = b.value_is in
    omega (arith, ints)

new_terms : (os : List Term) (x y : ℕ → ℤ) (edge : AbstractState) (k : ℕ) (ts : List Term) (free : ℤ) → ((i : ℕ) (t : Term) → slice_get ts i ≡ Some t → AllowedBy edge x (tag_of edge (place_of t)) t (y (k + i))) → ((i : ℕ) (t : Term) (g : Tag) → slice_get ts i ≡ Some t → tag_of edge (place_of t) ≡ Some g → g.term < length os) → sum_if (free_parts edge k ts) ≡ Some free → terms_value k ts y ≤ℤ (all_shares 0 os x edge ts +ℤ free)
new_terms os x y edge k [] free allowed below e = let z = some_is (pos 0) free e in let s = all_shares-nil 0 os x edge in omega (arith, ints)
new_terms os x y edge k (t ∷ ts) free allowed below e =
    let p = parts (free_part edge (tag_of edge (place_of t)) t) (free_parts edge (suc k) ts) free e in
    let first = new_term os x edge t (y k) p.head (tag_of edge (place_of t)) (subst (λ n. AllowedBy edge x (tag_of edge (place_of t)) t (y n)) (omega arith) (allowed 0 t refl)) (λ g h. below 0 t g refl h) p.head_is in
    let rest = new_terms os x y edge (suc k) ts p.tail (λ i u h. subst (λ n. AllowedBy edge x (tag_of edge (place_of u)) u (y n)) (omega arith) (allowed (suc i) u h)) (λ i u g h. below (suc i) u g h) p.tail_is in
    let swap = all_shares-cons 0 os x edge t ts in
    let z = p.sum_is in
    omega (arith, ints)

-- ---- the old budget is at least what it keeps and the shares

abbrev pub kept_parts : AbstractState → AbstractState → List Term → ℕ → List Term → List (Option ℤ)
kept_parts at_label edge new j os = each_term (λ i t. option_map (least_at_ends (λ x. term_value t x -ℤ shares i x edge new)) (bounds at_label t)) j os

old_terms : (x : ℕ → ℤ) (at_label edge : AbstractState) (new : List Term) (j : ℕ) (os : List Term) (kept : ℤ) → ((i : ℕ) (t : Term) (r : Interval) → slice_get os i ≡ Some t → bounds at_label t ≡ Some r → (pos r.lo ≤ℤ x (j + i)) × (x (j + i) ≤ℤ pos r.hi)) → sum_if (kept_parts at_label edge new j os) ≡ Some kept → (kept +ℤ all_shares j os x edge new) ≤ℤ terms_value j os x
old_terms x at_label edge new j [] kept inside e = let z = some_is (pos 0) kept e in omega (arith, ints)
old_terms x at_label edge new j (t ∷ os) kept inside e =
    let f : ℤ → ℤ = λ v. term_value t v -ℤ shares j v edge new in
    let p = parts (option_map (least_at_ends f) (bounds at_label t)) (kept_parts at_label edge new (suc j) os) kept e in
    let b = from_bounds (least_at_ends f) (bounds at_label t) p.head p.head_is in
    let here : (pos b.range.lo ≤ℤ x j) × (x j ≤ℤ pos b.range.hi) = subst (λ n. (pos b.range.lo ≤ℤ x n) × (x n ≤ℤ pos b.range.hi)) (omega arith) (inside 0 t b.range refl b.is_there) in
    let affine = difference_affine (term_value t) (λ v. shares j v edge new) (term_affine t) (shares_affine j edge new) in
    let ends = (least_at_end f affine (pos b.range.lo) (x j) (pos b.range.hi) here.0 here.1).0 in
    let rest = old_terms x at_label edge new (suc j) os p.tail (λ i u r h g. subst (λ n. (pos r.lo ≤ℤ x n) × (x n ≤ℤ pos r.hi)) (omega arith) (inside (suc i) u r h g)) p.tail_is in
    let z = p.sum_is in
    let v = b.value_is in
    omega (arith, ints)

-- ---- the law

pub slack_pays : (old new : Budget) (at_label edge : AbstractState) (cost slack : ℤ) → HaveTagsOf (length old.terms) edge new.terms → least_slack old at_label cost edge new ≡ Some slack → pos 0 ≤ℤ slack → Pays old at_label cost edge new
slack_pays old new at_label edge cost slack below e enough x y inside allowed =
    go (sum_if (kept_parts at_label edge new.terms 0 old.terms)) (sum_if (free_parts edge 0 new.terms)) refl refl e
  where
    go : (a b : Option ℤ) → sum_if (kept_parts at_label edge new.terms 0 old.terms) ≡ a → sum_if (free_parts edge 0 new.terms) ≡ b
        → option_and_then (λ kept. option_map (λ free. (((pos old.base -ℤ cost) -ℤ pos new.base) +ℤ kept) -ℤ free) b) a ≡ Some slack
        → (cost +ℤ budget_value new y) ≤ℤ budget_value old x
    go (Some kept) (Some free) f g h =
        let z = some_is ((((pos old.base -ℤ cost) -ℤ pos new.base) +ℤ kept) -ℤ free) slack h in
        let low = old_terms x at_label edge new.terms 0 old.terms kept (λ i t r u v. subst (λ n. (pos r.lo ≤ℤ x n) × (x n ≤ℤ pos r.hi)) (omega arith) (inside i t r u v)) f in
        let high = new_terms old.terms x y edge 0 new.terms free (λ i t u. subst (λ n. AllowedBy edge x (tag_of edge (place_of t)) t (y n)) (omega arith) (allowed i t u)) below g in
        omega (arith, ints)
    go (Some kept) None f g h = absurd (false≢true (ap is_some h))
    go None b f g h = absurd (false≢true (ap is_some h))
