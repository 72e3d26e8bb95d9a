-- Which state reaches each instruction, and where it goes on.
use Rattle.std.specs.Prelude.{ℕ, suc, ◌+◌, ℤ, pos, ◌+ℤ◌, Bool, true, false, List, [], ◌∷◌, Option, Some, None, is_none, option_map, option_and_then, if◌then◌else◌}
use Rattle.bpf_insn.specs.declared.instruction.Insn.{Insn}
use Rattle.bpf_insn.specs.declared.instruction.Insn.TheVariants.{Ja, JaLong, JumpIf, CallLocal}
use Rattle.bpf_insn.specs.Instruction.{Instructions, slot_count, distance, target, goes_on}
use Rattle.bpf_state.specs.State.{AbstractState, tightened, caller_state, no_tags, with_tag}
use Rattle.bpf_state.specs.Fault.{fault_of}
use Rattle.bpf_state.specs.Transfer.{after, branch}
use Rattle.bpf_state.specs.declared.known.Place.{Place}
use Rattle.bpf_cert.specs.declared.certificate.Term.{Term}
use Rattle.bpf_cert.specs.View.{LabelView, FunctionView, CertificateView}
use Rattle.bpf_safety.specs.Labels.{label_at, function_from}
use Rattle.bpf_safety.specs.Budget.{budget, place_of, greatest_budget}

-- ---- labels

-- the place has the tag of the term j: (j, 0)
abbrev pub with_term : ℕ → Place → AbstractState → AbstractState
with_term j place s = with_tag s place (Some (record { term = j; offset = pos 0 }))

abbrev pub with_tags : ℕ → List Term → AbstractState → AbstractState
with_tags j [] s = s
with_tags j (t ∷ ts) s = with_term j (place_of t) (with_tags (suc j) ts s)

-- the state at a label: each number tightened, and a tag for each term
abbrev pub label_state : LabelView → Option AbstractState
label_state l =
    option_map
    (λ s. with_tags 0 l.terms (record s { register_tags = no_tags 11; slot_tags = no_tags 64 }))
    (tightened l.state)

-- ---- what reaches an instruction

-- the state, the label before it with its state there, and the cost since, if it is known
pub record Arrival : Type 0 where
  pub state : AbstractState
  pub label : LabelView
  pub at_label : AbstractState
  pub cost : Option ℤ

pub record Visit : Type 0 where
  pub slot : ℕ
  pub insn : Insn
  pub arrival : Option Arrival

abbrev pub at_label_arrival : LabelView → Option Arrival
at_label_arrival l = option_map (λ s. record { state = s; label = l; at_label = s; cost = Some (pos 0) }) (label_state l)

-- the function that an instruction calls
abbrev pub callee : CertificateView → ℕ → Insn → Option FunctionView
callee c slot (CallLocal off) = option_and_then (function_from c) (target slot off)
callee c slot _ = None

-- what a call costs beside itself: the callee's budget at its entry, at its greatest
abbrev pub call_cost : CertificateView → Option FunctionView → AbstractState → Option ℤ
call_cost c f s = option_and_then (λ l. greatest_budget (budget l) s) (option_and_then (λ g. label_at c g.first) f)

-- the cost after an instruction
abbrev pub cost_after : CertificateView → ℕ → Insn → Arrival → Option ℤ
cost_after c slot (CallLocal off) a =
    option_and_then (λ spent. option_map (λ more. (spent +ℤ pos 1) +ℤ more) (call_cost c (callee c slot (CallLocal off)) a.state)) a.cost
cost_after c slot i a = option_map (λ spent. spent +ℤ pos 1) a.cost

-- ---- edges: an instruction goes on at the next one, or at its target

-- the target of a jump
abbrev pub jump_target : ℕ → Insn → Option ℕ
jump_target slot (CallLocal off) = None
jump_target slot i = option_and_then (target slot) (distance i)

-- the state on the edge to the next instruction, of a state without fault: None if the edge is dead or isn't there
abbrev pub next_state : Instructions → CertificateView → ℕ → Insn → AbstractState → Option AbstractState
next_state p c slot (JumpIf cond width dst src off) s = branch (JumpIf cond width dst src off) false s
next_state p c slot (CallLocal off) s = option_and_then (λ g. caller_state g.ret s) (callee c slot (CallLocal off))
next_state p c slot i s = if goes_on i then after p.order i s else None

-- the state on the edge of a jump
abbrev pub jump_state : ℕ → Insn → AbstractState → Option AbstractState
jump_state slot (JumpIf cond width dst src off) s = branch (JumpIf cond width dst src off) true s
jump_state slot (Ja off) s = Some s
jump_state slot (JaLong off) s = Some s
jump_state slot _ s = None

-- an arrival at an instruction whose registers and memory are judged and found right
abbrev pub sound_arrival : CertificateView → Insn → Option Arrival → Option Arrival
sound_arrival c i None = None
sound_arrival c i (Some a) = if is_none (fault_of c.least a.state i) then Some a else None

-- what goes on to the next instruction
abbrev pub passed_on : Instructions → CertificateView → ℕ → Insn → Arrival → Option Arrival
passed_on p c slot i a =
    option_map (λ s. record a { state = s; cost = cost_after c slot i a }) (next_state p c slot i a.state)

-- ---- the assignment of states to slots

-- a label has its own state; elsewhere stands what goes on from the instruction before
abbrev pub arrives_at : Option LabelView → Option Arrival → Option Arrival
arrives_at (Some l) passed = at_label_arrival l
arrives_at None passed = passed

abbrev pub arrives : CertificateView → ℕ → Option Arrival → Option Arrival
arrives c slot passed = arrives_at (label_at c slot) passed

abbrev pub visits_from : Instructions → CertificateView → ℕ → Option Arrival → List Insn → List Visit
visits_from p c slot passed [] = []
visits_from p c slot passed (i ∷ is) =
    let here = arrives c slot passed in
    record { slot = slot; insn = i; arrival = here }
    ∷ visits_from p c (slot + slot_count i) (option_and_then (passed_on p c slot i) (sound_arrival c i here)) is

-- each instruction with what reaches it
abbrev pub visits : Instructions → CertificateView → List Visit
visits p c = visits_from p c 0 None p.list
