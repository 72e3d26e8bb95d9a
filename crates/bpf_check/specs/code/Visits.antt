-- What a visit finds.
use Rattle.std.specs.Prelude.{◌≡◌, ℕ, ◌+◌, option_and_then, List, ◌++◌, Bool, not, ◌&&◌, ◌||◌, is_none, Option, None, IfSome}
use Rattle.std.specs.Option.{option_to_list}
use Rattle.bpf_insn.specs.declared.instruction.Insn.{Insn}
use Rattle.bpf_insn.specs.Instruction.{Instructions, slot_count}
use Rattle.bpf_state.specs.declared.condition.Condition.TheVariants.{NoLabel, NotEntailed, OverBudget, NoDeeper, FallsOff, LeavesFunction}
use Rattle.bpf_state.specs.Fault.{fault_of, some_passes}
use Rattle.bpf_state.specs.State.{tightened}
use Rattle.bpf_safety.specs.Labels.{label_at}
use Rattle.bpf_cert.specs.View.{CertificateView}
use Rattle.bpf_safety.specs.Flow.{Arrival, Visit, arrives, passed_on, sound_arrival}
use Rattle.bpf_safety.specs.Flaw.{at, fails, is_negative_if, numbers_of_arrival, numbers_of_visit, is_not_entailed, is_over_budget, falls_past_end}
use Rattle.bpf_check.specs.code.Arrivals.{walk_of, IsReaching}
use Rattle.bpf_check.specs.code.Edges.{visit, is_unpaid, has_refused, has_unpaid}
use Rattle.bpf_check.specs.declared.arrival.Walk.{Walk}
use Rattle.bpf_check.specs.declared.site.Site.{Site}
use Rattle.bpf_check.specs.declared.visit.Judged.{Judged}
use Rattle.bpf_check.specs.declared.visit.Seen.{Seen}
use Rattle.bpf_check.specs.declared.visit.Shape.{Shape}

-- which conditions fail, from what is seen
abbrev pub judged_of : Seen → Judged
judged_of s = record {
  not_entailed = ((has_refused s.jump || s.next.is_refused) || s.enters_wrongly) || s.returns_wrongly;
  over_budget = (has_unpaid s.jump || is_unpaid s.next) || is_negative_if s.left_at_exit;
  past_end = s.past_end;
}

-- an instruction without fault, with what goes on from it and which conditions on its state fail
pub record IsJudgment (p : Instructions) (c : CertificateView) (slot : ℕ) (i : Insn) (a : Arrival) (w : Walk) (j : Judged) : Type 0 where
  pub no_fault : fault_of c.least a.state i ≡ None
  pub passed : walk_of w ≡ passed_on p c slot i a
  pub valid : IfSome w.here (λ h. IsReaching (slot + slot_count i) h)
  pub not_entailed : j.not_entailed ≡ is_not_entailed p c (visit slot i) a
  pub over_budget : j.over_budget ≡ is_over_budget p c (visit slot i) a
  pub past_end : j.past_end ≡ falls_past_end p c (visit slot i) a

-- the visit of an instruction with what reaches it
abbrev pub visit_with : ℕ → Insn → Option Arrival → Visit
visit_with slot i here = record { slot = slot; insn = i; arrival = here }

-- the visit of an instruction that is reached by what was passed on
abbrev pub visit_of : CertificateView → ℕ → Insn → Option Arrival → Visit
visit_of c slot i passed = visit_with slot i (arrives c slot passed)

-- the numbers of an instruction that need a state
abbrev pub numbers_with : Instructions → CertificateView → ℕ → Insn → Option Arrival → List ℕ
numbers_with p c slot i o =
    option_to_list (option_and_then (λ a. fault_of c.least a.state i) o) ++ numbers_of_arrival p c (visit slot i) (sound_arrival c i o)

-- the flaws of an instruction that need a state
abbrev pub flaws_with : Instructions → CertificateView → ℕ → Insn → Option Arrival → List (ℕ × ℕ)
flaws_with p c slot i o = at slot (numbers_with p c slot i o)

-- what goes on from an instruction with what reaches it
abbrev pub passed_with : Instructions → CertificateView → ℕ → Insn → Option Arrival → Option Arrival
passed_with p c slot i o = option_and_then (passed_on p c slot i) (sound_arrival c i o)

-- what goes on from an instruction that is reached by what was passed on
abbrev pub passed_after : Instructions → CertificateView → ℕ → Insn → Option Arrival → Option Arrival
passed_after p c slot i passed = passed_with p c slot i (arrives c slot passed)

-- no state reaches the slot, and no label there is refused for itself
abbrev pub never_reached : CertificateView → ℕ → Option Arrival → Bool
never_reached c slot o = is_none (arrives c slot o) && not (some_passes (λ l. is_none (tightened l.state)) (label_at c slot))

-- ---- flaws

-- the flaws of a visit
abbrev pub visit_flaws : Instructions → CertificateView → Visit → List (ℕ × ℕ)
visit_flaws p c v = at v.slot (numbers_of_visit p c v)

-- the flaws at a slot, from the conditions on the state that fail
abbrev pub judged_flaws : ℕ → Judged → List (ℕ × ℕ)
judged_flaws slot j = at slot (fails NotEntailed j.not_entailed) ++ at slot (fails OverBudget j.over_budget) ++ at slot (fails FallsOff j.past_end)

-- the flaws at a slot that need no state, with those that need one in their place
abbrev pub shape_flaws : ℕ → Shape → List (ℕ × ℕ) → List (ℕ × ℕ)
shape_flaws slot s judged =
    at slot (fails NoLabel s.lacks_label) ++ judged ++ at slot (fails NoDeeper s.no_deeper) ++ at slot (fails FallsOff s.never)
    ++ at slot (fails LeavesFunction s.leaves)

-- ---- at a site

-- the visit of a site's instruction with what reaches it
abbrev pub site_visit_with : Site → Option Arrival → Visit
site_visit_with s here = visit_with s.here.slot s.insn here

-- the visit of a site's instruction that is reached by what was passed on
abbrev pub site_visit_of : Site → Option Arrival → Visit
site_visit_of s passed = visit_of s.certificate.now s.here.slot s.insn passed

-- a site's instruction is judged so
abbrev pub IsJudgmentAt : Instructions → Site → Arrival → Walk → Judged → Type 0
IsJudgmentAt p s a w j = IsJudgment p s.certificate.now s.here.slot s.insn a w j
