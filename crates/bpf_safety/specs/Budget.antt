-- Ranking functions, and how an edge pays for its instructions.
use Rattle.std.specs.Prelude.{◌≡◌, ℕ, suc, ◌<◌, ◌==◌, ℤ, pos, ◌+ℤ◌, ◌-ℤ◌, ◌*ℤ◌, ◌≤ℤ◌, List, [], ◌∷◌, slice_get, Option, Some, None, option_map, option_and_then, if◌then◌else◌}
use Rattle.std.specs.Int.{int_min, int_max}
use Rattle.bpf_num.specs.Interval.{Interval}
use Rattle.bpf_state.specs.declared.known.RegState.{RegState}
use Rattle.bpf_state.specs.declared.known.RegState.TheVariants.{Num}
use Rattle.bpf_state.specs.declared.known.Tag.{Tag}
use Rattle.bpf_state.specs.State.{AbstractState, tag as tag_of}
use Rattle.bpf_state.specs.Held.{held}
use Rattle.bpf_state.specs.declared.known.Place.{Place}
use Rattle.bpf_cert.specs.declared.certificate.Measure.{Measure}
use Rattle.bpf_cert.specs.declared.certificate.Term.{Term}
use Rattle.bpf_cert.specs.View.{LabelView}
use Rattle.bpf_cert.specs.Limits.{place_measured}
use Rattle.bpf_cert.specs.declared.certificate.Measure.TheVariants.{Down, Up}

-- a ranking function: how many instructions are left, at most
pub record Budget : Type 0 where
  pub base : ℕ
  pub terms : List Term

abbrev pub budget : LabelView → Budget
budget l = record { base = l.base; terms = l.terms }

-- the place that a term's measure looks at
abbrev pub place_of : Term → Place
place_of t = place_measured t.measure

-- ---- what an abstract state tells of a place

abbrev pub unsigned_bounds : RegState → Option Interval
unsigned_bounds (Num n) = Some n.unsigned
unsigned_bounds _ = None

-- the unsigned bounds of a term's place, if it is a number
abbrev pub bounds : AbstractState → Term → Option Interval
bounds s t = unsigned_bounds (held s (place_of t))

-- ---- the value of a budget

abbrev pub measured : Measure → ℤ → ℤ
measured (Down place) x = x
measured (Up place limit) x = pos limit -ℤ x

-- a term where its place has the value x
abbrev pub term_value : Term → ℤ → ℤ
term_value t x = pos t.weight *ℤ measured t.measure x

-- the budget where the place of the term j has the value x j; the first term has this index
abbrev pub terms_value : ℕ → List Term → (ℕ → ℤ) → ℤ
terms_value j [] x = pos 0
terms_value j (t ∷ ts) x = term_value t (x j) +ℤ terms_value (suc j) ts x

abbrev pub budget_value : Budget → (ℕ → ℤ) → ℤ
budget_value b x = pos b.base +ℤ terms_value 0 b.terms x

-- ---- the least and the greatest value: each term is linear, so at an end of its interval

abbrev pub least_at_ends : (ℤ → ℤ) → Interval → ℤ
least_at_ends f r = int_min (f (pos r.lo)) (f (pos r.hi))

abbrev pub greatest_at_ends : (ℤ → ℤ) → Interval → ℤ
greatest_at_ends f r = int_max (f (pos r.lo)) (f (pos r.hi))

-- the sum of numbers that may be missing
abbrev pub sum_if : List (Option ℤ) → Option ℤ
sum_if [] = Some (pos 0)
sum_if (x ∷ xs) = option_and_then (λ a. option_map (λ b. a +ℤ b) (sum_if xs)) x

abbrev pub each_term : {A : Type 0} → (ℕ → Term → A) → ℕ → List Term → List A
each_term f j [] = []
each_term f j (t ∷ ts) = f j t ∷ each_term f (suc j) ts

-- the greatest and the least value of a budget within a state's bounds, if each place is a number
abbrev pub greatest_budget : Budget → AbstractState → Option ℤ
greatest_budget b s =
    option_map (λ z. pos b.base +ℤ z)
    (sum_if (each_term (λ j t. option_map (greatest_at_ends (term_value t)) (bounds s t)) 0 b.terms))

abbrev pub least_budget : Budget → AbstractState → Option ℤ
least_budget b s =
    option_map (λ z. pos b.base +ℤ z)
    (sum_if (each_term (λ j t. option_map (least_at_ends (term_value t)) (bounds s t)) 0 b.terms))

-- ---- an edge from a label into a label

-- what a new term takes of the old place j, whose value is x: all of it if it is tagged with j
abbrev pub share_of : ℕ → ℤ → Option Tag → Term → ℤ
share_of j x None t = pos 0
share_of j x (Some tag) t = if tag.term == j then term_value t (x +ℤ tag.offset) else pos 0

abbrev pub shares : ℕ → ℤ → AbstractState → List Term → ℤ
shares j x edge [] = pos 0
shares j x edge (t ∷ ts) = share_of j x (tag_of edge (place_of t)) t +ℤ shares j x edge ts

-- a new term that isn't tagged takes its greatest value within the edge's bounds
abbrev pub free_part : AbstractState → Option Tag → Term → Option ℤ
free_part edge (Some tag) t = Some (pos 0)
free_part edge None t = option_map (greatest_at_ends (term_value t)) (bounds edge t)

-- the old budget less the cost less the new budget, at its least: within the old label's bounds, and for places
-- without a tag within the edge's
abbrev pub least_slack : Budget → AbstractState → ℤ → AbstractState → Budget → Option ℤ
least_slack old at_label cost edge new =
    option_and_then (λ kept.
    option_map (λ free. (((pos old.base -ℤ cost) -ℤ pos new.base) +ℤ kept) -ℤ free)
    (sum_if (each_term (λ j t. free_part edge (tag_of edge (place_of t)) t) 0 new.terms)))
    (sum_if (each_term (λ j t. option_map (least_at_ends (λ x. term_value t x -ℤ shares j x edge new.terms)) (bounds at_label t)) 0 old.terms))

-- ---- the same over all values

-- x gives each place of the old label a value within its bounds
abbrev pub InBox : AbstractState → List Term → (ℕ → ℤ) → Type 0
InBox at_label terms x = (j : ℕ) (t : Term) (r : Interval) → slice_get terms j ≡ Some t → bounds at_label t ≡ Some r → (pos r.lo ≤ℤ x j) × (x j ≤ℤ pos r.hi)

-- y gives each place of the new label a value that its tag or its bounds allow
abbrev pub AllowedBy : AbstractState → (ℕ → ℤ) → Option Tag → Term → ℤ → Type 0
AllowedBy edge x (Some tag) t y = y ≡ x tag.term +ℤ tag.offset
AllowedBy edge x None t y = (r : Interval) → bounds edge t ≡ Some r → (pos r.lo ≤ℤ y) × (y ≤ℤ pos r.hi)

abbrev pub OnEdge : AbstractState → List Term → (ℕ → ℤ) → (ℕ → ℤ) → Type 0
OnEdge edge terms x y = (k : ℕ) (t : Term) → slice_get terms k ≡ Some t → AllowedBy edge x (tag_of edge (place_of t)) t (y k)

-- tags on an edge name terms of the label before it
abbrev pub HaveTagsOf : ℕ → AbstractState → List Term → Type 0
HaveTagsOf n edge terms = (k : ℕ) (t : Term) (tag : Tag) → slice_get terms k ≡ Some t → tag_of edge (place_of t) ≡ Some tag → tag.term < n

-- an edge pays: everywhere the old budget is at least the cost and the new budget
abbrev pub Pays : Budget → AbstractState → ℤ → AbstractState → Budget → Type 0
Pays old at_label cost edge new =
    (x y : ℕ → ℤ) → InBox at_label old.terms x → OnEdge edge new.terms x y
    → (cost +ℤ budget_value new y) ≤ℤ budget_value old x
