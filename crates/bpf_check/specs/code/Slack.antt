-- What code computes of budgets.
use Rattle.std.specs.Prelude.{ℕ, ℤ, pos, neg_ℤ, ◌-ℤ◌, ◌≤ℤ◌, Option, option_map, unwrap_or}
use Rattle.bpf_state.specs.State.{AbstractState, blank}
use Rattle.bpf_cert.specs.declared.certificate.Term.{Term}
use Rattle.bpf_cert.specs.View.{LabelView}
use Rattle.bpf_state.specs.State.{tag}
use Rattle.bpf_safety.specs.Budget.{bounds, place_of, term_value, least_at_ends, shares, free_part, each_term, sum_if}
use Rattle.bpf_safety.specs.Flow.{label_state}

-- the state at a label that gives one
abbrev pub at_label : LabelView → AbstractState
at_label l = unwrap_or (label_state l) blank

-- an integer at most so far from zero
pub record IsWithin (n : ℕ) (z : ℤ) : Type 0 where
  pub low : neg_ℤ (pos n) ≤ℤ z
  pub high : z ≤ℤ pos n

-- the two sums of the least slack: what the old terms keep, and what the new ones take beside
abbrev pub kept_part : AbstractState → LabelView → AbstractState → ℕ → Term → Option ℤ
kept_part edge new s j t = option_map (least_at_ends (λ x. term_value t x -ℤ shares j x edge new.terms)) (bounds s t)

abbrev pub kept_of : LabelView → AbstractState → LabelView → Option ℤ
kept_of old edge new = sum_if (each_term (kept_part edge new (at_label old)) 0 old.terms)

abbrev pub free_term : AbstractState → ℕ → Term → Option ℤ
free_term edge j t = free_part edge (tag edge (place_of t)) t

abbrev pub free_of : AbstractState → LabelView → Option ℤ
free_of edge new = sum_if (each_term (free_term edge) 0 new.terms)
