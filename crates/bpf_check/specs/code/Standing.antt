-- What is seen of labels, and of the budget at the start.
use Rattle.std.specs.Prelude.{◌≡◌, ℕ, ◌==◌, ℤ, Bool, not, ◌&&◌, ◌||◌, List, ◌++◌, find, option_to_list, is_none, is_some, Option, option_map, option_and_then, IfSome, if◌then◌else◌}
use Rattle.std.specs.List.{list_any}
use Rattle.bpf_insn.specs.Instruction.{Instructions, insn_at}
use Rattle.bpf_state.specs.State.{tightened, first_state}
use Rattle.bpf_state.specs.declared.condition.Condition.TheVariants.{MisplacedLabel, OverBudget, Misshapen}
use Rattle.bpf_cert.specs.View.{LabelView, FunctionView, CertificateView, label_view, function_view}
use Rattle.bpf_safety.specs.Labels.{first_with, function_at, label_at}
use Rattle.bpf_safety.specs.Budget.{budget, greatest_budget}
use Rattle.bpf_safety.specs.Flaw.{at, fails, is_bad_term, is_first_label, is_outside, numbers_of_label}
use Rattle.bpf_check.specs.LabelIndex.{are_in_place}
use Rattle.bpf_check.specs.declared.shape.SeenLabel.{SeenLabel}
use Rattle.bpf_check.specs.declared.standing.Standing.{Standing}

-- what is seen of a label of a function
pub record IsSeenLabel (p : Instructions) (c : CertificateView) (f : FunctionView) (s : SeenLabel) : Type 0 where
  pub misplaced : s.is_misplaced ≡ is_none (insn_at p.list s.label.now.slot)
  pub bad : is_some s.bad ≡ list_any (is_bad_term (label_view s.label.now)) (label_view s.label.now).terms
  pub first : s.bad ≡ find (is_bad_term (label_view s.label.now)) (label_view s.label.now).terms
  pub outside : s.is_outside ≡ is_outside c f (label_view s.label.now)
  pub empty : s.is_empty ≡ is_none (tightened s.label.now.state)

-- the numbers that a label is refused by, from what is seen of it
abbrev pub numbers_of_seen : SeenLabel → List ℕ
numbers_of_seen s =
    fails MisplacedLabel s.is_misplaced ++ fails OverBudget (is_some s.bad) ++ fails Misshapen (s.is_outside || s.is_empty)

-- the flaws of a label of a function
abbrev pub label_flaws : Instructions → CertificateView → FunctionView → LabelView → List (ℕ × ℕ)
label_flaws p c f l = at l.slot (numbers_of_label p c f l)

-- what a function has at a slot
pub record IsStanding (p : Instructions) (c : CertificateView) (slot : ℕ) (s : Standing) : Type 0 where
  pub lacks : s.lacks_label ≡ (s.function.now.first == slot && not (is_first_label (function_view s.function.now)))
  pub label : option_map (λ l. label_view l.label.now) s.label ≡ first_with (λ l. l.slot == slot) (function_view s.function.now).labels
  pub seen : IfSome s.label (IsSeenLabel p c (function_view s.function.now))

-- a function begins at a slot, or has a label there
abbrev pub stands_at : ℕ → FunctionView → Bool
stands_at slot f = f.first == slot || is_some (first_with (λ l. l.slot == slot) f.labels)

-- the functions that are told of at a slot, by their numbers: the one that it lies in where each label lies in its function, else all
abbrev pub told_at : CertificateView → ℕ → List FunctionView
told_at c slot = if are_in_place c then option_to_list (function_at c slot) else c.functions

-- the greatest value of the budget at slot 0, where a run begins
abbrev pub budget_at_start : CertificateView → Option ℤ
budget_at_start c = option_and_then (λ l. greatest_budget (budget l) (first_state c.least c.most)) (label_at c 0)
