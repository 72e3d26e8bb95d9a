-- Flaws: a slot, and the number of a condition that fails there.
use Rattle.std.specs.Prelude.{ℕ, ◌+◌, ◌==◌, nat_le, ℤ, pos, ◌-ℤ◌, int_lt, Bool, true, false, not, ◌&&◌, ◌||◌, List, [], ◌∷◌, ◌++◌, flat_map, Option, Some, None, is_none, is_some, option_map, option_and_then, if◌then◌else◌}
use Rattle.std.specs.List.{list_any}
use Rattle.std.specs.Option.{option_to_list}
use Rattle.bpf_insn.specs.declared.instruction.Insn.{Insn}
use Rattle.bpf_insn.specs.declared.instruction.Insn.TheVariants.{CallLocal, Exit}
use Rattle.bpf_insn.specs.declared.instruction.Reg.TheVariants.{R0}
use Rattle.bpf_insn.specs.Instruction.{Instructions, slots, slot_count, insn_at, goes_on}
use Rattle.bpf_state.specs.declared.known.RegState.TheVariants.{Num}
use Rattle.bpf_state.specs.State.{AbstractState, register, first_state, callee_state, tightened}
use Rattle.bpf_state.specs.Fault.{fault_of, some_passes}
use Rattle.bpf_state.specs.declared.condition.Condition.{Condition}
use Rattle.bpf_state.specs.declared.condition.Condition.TheVariants.{NoLabel, MisplacedLabel, NotEntailed, OverBudget, NoDeeper, FallsOff, LeavesFunction, Misshapen}
use Rattle.bpf_state.specs.Condition.{condition_number}
use Rattle.bpf_state.specs.Entails.{state_entails, register_entails}
use Rattle.bpf_cert.specs.declared.certificate.Measure.{Measure}
use Rattle.bpf_cert.specs.declared.certificate.Term.{Term}
use Rattle.bpf_cert.specs.View.{LabelView, FunctionView, CertificateView}
use Rattle.bpf_safety.specs.Labels.{label_at, function_at}
use Rattle.bpf_cert.specs.declared.certificate.Measure.TheVariants.{Up}
use Rattle.bpf_safety.specs.Budget.{budget, bounds, greatest_budget, least_budget, least_slack}
use Rattle.bpf_safety.specs.Flow.{Arrival, Visit, visits, sound_arrival, callee, cost_after, jump_target, jump_state, next_state}

-- a number in a list if a test holds
abbrev pub number_if : ℕ → Bool → List ℕ
number_if n test = if test then n ∷ [] else []

-- the number of a condition in a list, if the condition fails
abbrev pub fails : Condition → Bool → List ℕ
fails condition test = number_if (condition_number condition) test

-- two numbers differ, or the first isn't there
abbrev pub is_not : Option ℕ → ℕ → Bool
is_not None n = true
is_not (Some m) n = not (m == n)

abbrev pub is_negative_if : Option ℤ → Bool
is_negative_if z = some_passes (λ n. int_lt n (pos 0)) z

-- ---- edges into labels

-- a live edge: where it leads, and its state
pub record Edge : Type 0 where
  pub slot : ℕ
  pub state : AbstractState

abbrev pub edge_to : Option ℕ → Option AbstractState → List Edge
edge_to (Some slot) (Some s) = record { slot = slot; state = s } ∷ []
edge_to _ _ = []

-- the live edges of an instruction without fault
abbrev pub edges : Instructions → CertificateView → Visit → Arrival → List Edge
edges p c v a =
    edge_to (jump_target v.slot v.insn) (jump_state v.slot v.insn a.state)
    ++ edge_to (Some (v.slot + slot_count v.insn)) (next_state p c v.slot v.insn a.state)

-- a label at the end of an edge doesn't take its state
abbrev pub is_refused_by : CertificateView → Edge → Bool
is_refused_by c e = some_passes (λ l. not (state_entails e.state l.state)) (label_at c e.slot)

-- the budget at the last label doesn't cover the cost and the budget at the end of an edge
abbrev pub is_unpaid : CertificateView → Visit → Arrival → Edge → Bool
is_unpaid c v a e =
    some_passes (λ l.
    is_negative_if (option_and_then (λ cost. least_slack (budget a.label) a.at_label cost e.state (budget l)) (cost_after c v.slot v.insn a)))
    (label_at c e.slot)

-- ---- conditions on an instruction

-- C1: no label stands at a jump's target
abbrev pub lacks_label : CertificateView → Visit → Bool
lacks_label c v = some_passes (λ t. is_none (label_at c t)) (jump_target v.slot v.insn)

-- C3 to C7: registers and memory, by number
abbrev pub fault_at : CertificateView → Visit → List ℕ
fault_at c v = option_to_list (option_and_then (λ a. fault_of c.least a.state v.insn) v.arrival)

-- the state at a callee's entry doesn't lie in the label at its first
abbrev pub enters_wrongly : CertificateView → Visit → Arrival → Bool
enters_wrongly c v a =
    some_passes (λ g. some_passes (λ l. not (state_entails (callee_state a.state) l.state)) (label_at c g.first)) (callee c v.slot v.insn)

-- the result at EXIT doesn't lie in what the function returns
abbrev pub returns_wrongly : CertificateView → Visit → Arrival → Insn → Bool
returns_wrongly c v a Exit = some_passes (λ f. not (register_entails (register a.state R0) (Num f.ret))) (function_at c v.slot)
returns_wrongly c v a _ = false

-- C8: a state doesn't lie where it leads to
abbrev pub is_not_entailed : Instructions → CertificateView → Visit → Arrival → Bool
is_not_entailed p c v a =
    list_any (is_refused_by c) (edges p c v a) || enters_wrongly c v a || returns_wrongly c v a v.insn

-- the budget at the last label doesn't cover the cost at EXIT
abbrev pub exits_unpaid : Visit → Arrival → Option ℤ → Insn → Bool
exits_unpaid v a cost Exit =
    is_negative_if (option_and_then (λ spent. option_map (λ b. b -ℤ spent) (least_budget (budget a.label) a.at_label)) cost)
exits_unpaid v a cost _ = false

-- C9: an edge or EXIT isn't paid
abbrev pub is_over_budget : Instructions → CertificateView → Visit → Arrival → Bool
is_over_budget p c v a =
    list_any (is_unpaid c v a) (edges p c v a) || exits_unpaid v a (cost_after c v.slot v.insn a) v.insn

-- C10: a callee's depth isn't below its caller's
abbrev pub calls_no_deeper : CertificateView → Visit → Bool
calls_no_deeper c v =
    some_passes (λ f. some_passes (λ g. nat_le f.depth g.depth) (callee c v.slot v.insn)) (function_at c v.slot)

-- a label that gives no state stands here, which is a flaw of its own
abbrev pub has_refused_label : CertificateView → Visit → Bool
has_refused_label c v = some_passes (λ l. is_none (tightened l.state)) (label_at c v.slot)

-- the last instruction can go on
abbrev pub falls_past_end : Instructions → CertificateView → Visit → Arrival → Bool
falls_past_end p c v a =
    v.slot + slot_count v.insn == slots p.list && is_some (next_state p c v.slot v.insn a.state)

-- C11: no state reaches the instruction
abbrev pub is_never_reached : CertificateView → Visit → Bool
is_never_reached c v = is_none v.arrival && not (has_refused_label c v)

-- C12: a jump or the next instruction lies in another function, or no function begins where a call leads to
abbrev pub leaves_for : CertificateView → FunctionView → Option ℕ → Bool
leaves_for c f to = some_passes (λ t. is_not (option_map (λ g. g.first) (function_at c t)) f.first) to

abbrev pub next_slot : Instructions → Visit → Option ℕ
next_slot p v =
    let next = v.slot + slot_count v.insn in
    if goes_on v.insn && not (next == slots p.list) then Some next else None

abbrev pub calls_nowhere : CertificateView → Visit → Insn → Bool
calls_nowhere c v (CallLocal off) = is_none (callee c v.slot v.insn)
calls_nowhere c v _ = false

abbrev pub leaves_function : Instructions → CertificateView → Visit → Bool
leaves_function p c v =
    some_passes (λ f. leaves_for c f (jump_target v.slot v.insn) || leaves_for c f (next_slot p v)) (function_at c v.slot)
    || calls_nowhere c v v.insn

-- conditions that need a state without fault
abbrev pub numbers_of_arrival : Instructions → CertificateView → Visit → Option Arrival → List ℕ
numbers_of_arrival p c v None = []
numbers_of_arrival p c v (Some a) =
    fails NotEntailed (is_not_entailed p c v a) ++ fails OverBudget (is_over_budget p c v a) ++ fails FallsOff (falls_past_end p c v a)

abbrev pub numbers_of_visit : Instructions → CertificateView → Visit → List ℕ
numbers_of_visit p c v =
    fails NoLabel (lacks_label c v) ++ fault_at c v ++ numbers_of_arrival p c v (sound_arrival c v.insn v.arrival)
    ++ fails NoDeeper (calls_no_deeper c v) ++ fails FallsOff (is_never_reached c v) ++ fails LeavesFunction (leaves_function p c v)

-- ---- conditions on a label

-- the number in a term's place may be above its limit
abbrev pub is_bad_limit : Option AbstractState → Measure → Term → Bool
is_bad_limit (Some s) (Up place limit) t = some_passes (λ r. not (nat_le r.hi limit)) (bounds s t)
is_bad_limit _ _ t = false

-- or the place holds no number
abbrev pub is_bad_term : LabelView → Term → Bool
is_bad_term l t = is_none (bounds l.state t) || is_bad_limit (tightened l.state) t.measure t

abbrev pub starts_at : ℕ → List LabelView → Bool
starts_at slot [] = false
starts_at slot (l ∷ ls) = l.slot == slot

abbrev pub is_first_label : FunctionView → Bool
is_first_label f = starts_at f.first f.labels

-- a label lies in its function: from its first to the next one's
abbrev pub is_outside : CertificateView → FunctionView → LabelView → Bool
is_outside c f l = is_not (option_map (λ g. g.first) (function_at c l.slot)) f.first

abbrev pub numbers_of_label : Instructions → CertificateView → FunctionView → LabelView → List ℕ
numbers_of_label p c f l =
    fails MisplacedLabel (is_none (insn_at p.list l.slot))
    ++ fails OverBudget (list_any (is_bad_term l) l.terms)
    ++ fails Misshapen (is_outside c f l || is_none (tightened l.state))

-- ---- conditions on the whole

abbrev pub begins_elsewhere : List FunctionView → Bool
begins_elsewhere [] = true
begins_elsewhere (f ∷ fs) = not (f.first == 0)

abbrev pub begins_wrongly : CertificateView → Bool
begins_wrongly c = begins_elsewhere c.functions || some_passes (λ l. not (state_entails (first_state c.least c.most) l.state)) (label_at c 0)

-- the budget at the start may be above the steps that are promised
abbrev pub starts_over_budget : CertificateView → Bool
starts_over_budget c =
    some_passes (λ l. some_passes (λ most. int_lt (pos c.steps) most) (greatest_budget (budget l) (first_state c.least c.most))) (label_at c 0)

-- ---- all flaws

abbrev pub at : ℕ → List ℕ → List (ℕ × ℕ)
at slot [] = []
at slot (n ∷ ns) = (slot, n) ∷ at slot ns

abbrev pub function_flaws : Instructions → CertificateView → FunctionView → List (ℕ × ℕ)
function_flaws p c f =
    at f.first (fails Misshapen (not (is_first_label f))) ++ flat_map (λ l. at l.slot (numbers_of_label p c f l)) f.labels

abbrev pub flaws : Instructions → CertificateView → List (ℕ × ℕ)
flaws p c =
    at 0 (fails Misshapen (begins_wrongly c) ++ fails OverBudget (starts_over_budget c))
    ++ flat_map (λ v. at v.slot (numbers_of_visit p c v)) (visits p c)
    ++ flat_map (function_flaws p c) c.functions
