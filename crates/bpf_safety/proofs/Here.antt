-- The invariant of a run in one frame: the machine stands at a visit whose state describes it.
use Rattle.std.specs.Prelude.{◌≡◌, ℕ, suc, ◌+◌, ◌≤◌, ◌<◌, ◌⊎◌, ℤ, pos, false, List, ◌∷◌, length, get_or, slice_get, Contains, Option, Some, None, is_none}
use Rattle.bpf_insn.specs.declared.order.Order.{Order}
use Rattle.bpf_insn.specs.declared.instruction.Insn.{Insn}
use Rattle.bpf_insn.specs.declared.instruction.Insn.TheVariants.{Exit}
use Rattle.bpf_insn.specs.declared.instruction.Reg.TheVariants.{R0}
use Rattle.bpf_semantics.specs.declared.value.Value.TheVariants.{Number as NumberValue}
use Rattle.bpf_insn.specs.Instruction.{Instructions, insn_at, slots}
use Rattle.bpf_semantics.specs.State as machine
use Rattle.bpf_semantics.specs.Run.{Steps}
use Rattle.bpf_state.specs.State.{AbstractState, IsAbstract}
use Rattle.bpf_safety.specs.Describes.{Describes, LengthWithin, IsStored, slot_cell}
use Rattle.bpf_state.specs.Fault.{fault_of}
use Rattle.bpf_state.specs.declared.known.Place.{Place}
use Rattle.bpf_cert.specs.declared.certificate.Term.{Term}
use Rattle.bpf_cert.specs.View.{LabelView, FunctionView, CertificateView}
use Rattle.bpf_safety.specs.Labels.{label_at, function_at}
use Rattle.bpf_state.specs.declared.known.Place.TheVariants.{Register, Slot}
use Rattle.bpf_num.specs.Interval.{Interval}
use Rattle.bpf_num.specs.Number.{Has, IsNumber}
use Rattle.bpf_state.specs.State.{IsPlace, tightened}
use Rattle.bpf_safety.specs.Budget.{place_of, budget as budget_of, budget_value, InBox, bounds}
use Rattle.bpf_safety.specs.Flow.{Arrival, Visit, visits, visits_from, arrives, label_state}
use Rattle.bpf_safety.specs.Flaw.{lacks_label, is_not_entailed, is_over_budget, falls_past_end, is_bad_term, calls_no_deeper, is_never_reached, leaves_function}

-- ---- what a certificate keeps, and what a certified program has

pub record IsWellFormed (c : CertificateView) : Type 0 where
  pub short_context : c.most ≤ 4096
  pub ordered : c.least ≤ c.most
  pub states : (l : LabelView) (slot : ℕ) → label_at c slot ≡ Some l → IsAbstract l.state
  pub depths : (f : FunctionView) → Contains c.functions f → (1 ≤ f.depth) × (f.depth ≤ 8)
  pub returns : (f : FunctionView) → Contains c.functions f → IsNumber f.ret
  pub one_each : (f g : FunctionView) → Contains c.functions f → Contains c.functions g → f.first ≡ g.first → f ≡ g
  pub places : (l : LabelView) (slot j : ℕ) (t : Term) → label_at c slot ≡ Some l → slice_get l.terms j ≡ Some t → IsPlace (place_of t)

-- no condition fails at a visit
pub record IsRight (p : Instructions) (c : CertificateView) (v : Visit) : Type 0 where
  pub has_label : lacks_label c v ≡ false
  pub deeper : calls_no_deeper c v ≡ false
  pub stays : leaves_function p c v ≡ false
  pub no_fault : (a : Arrival) → v.arrival ≡ Some a → fault_of c.least a.state v.insn ≡ None
  pub entailed : (a : Arrival) → v.arrival ≡ Some a → is_not_entailed p c v a ≡ false
  pub paid : (a : Arrival) → v.arrival ≡ Some a → is_over_budget p c v a ≡ false
  pub not_past : (a : Arrival) → v.arrival ≡ Some a → falls_past_end p c v a ≡ false
  pub reached : is_never_reached c v ≡ false

-- no condition fails at a label
pub record IsRightLabel (p : Instructions) (l : LabelView) : Type 0 where
  pub stands : is_none (insn_at p.list l.slot) ≡ false
  pub terms : (j : ℕ) (t : Term) → slice_get l.terms j ≡ Some t → is_bad_term l t ≡ false
  pub tightens : is_none (tightened l.state) ≡ false

-- ---- visits: what the instructions from a slot on become is a part of all visits

pub record Reaches (p : Instructions) (c : CertificateView) (slot : ℕ) (passed : Option Arrival) (is : List Insn) : Type 0 where
  pub visited : (v : Visit) → Contains (visits_from p c slot passed is) v → Contains (visits p c) v
  pub stands : (n : ℕ) → insn_at p.list (slot + n) ≡ insn_at is n
  pub ends : slots p.list ≡ slot + slots is

-- ---- places

-- a place of the machine holds the number
abbrev pub HoldsNumber : Order → machine.State → Place → ℕ → Type 0
HoldsNumber order m (Register r) n = machine.register m r ≡ Some (NumberValue n)
HoldsNumber order m (Slot k) n = (1 ≤ k) × (k ≤ 64) × IsStored order n (slot_cell m k)

-- the value of the place of the term j
abbrev pub values : List ℕ → ℕ → ℤ
values x j = pos (get_or x j 0)

-- each term's place is a number of the state, with its bounds
abbrev pub HasBounds : AbstractState → List Term → Type 0
HasBounds s terms = (j : ℕ) (t : Term) → slice_get terms j ≡ Some t → (r : Interval) × (bounds s t ≡ Some r)

-- ---- the invariant

-- what doesn't change until the next label: x has the values that the label's places held there
pub record IsBlock (c : CertificateView) (a : Arrival) (x : List ℕ) (budget spent : ℕ) : Type 0 where
  pub label_is : label_at c a.label.slot ≡ Some a.label
  pub state_is : label_state a.label ≡ Some a.at_label
  pub as_many : length x ≡ length a.label.terms
  pub has_bounds : HasBounds a.at_label a.label.terms
  pub inside : InBox a.at_label a.label.terms (values x)
  pub budget_is : budget_value (budget_of a.label) (values x) ≡ pos budget
  pub cost_is : a.cost ≡ Some (pos spent)

pub record Here (p : Instructions) (c : CertificateView) (m : machine.State) (budget spent : ℕ) : Type 0 where
  pub passed : Option Arrival
  pub insn : Insn
  pub rest : List Insn
  pub reaches : Reaches p c m.top.slot passed (insn ∷ rest)
  pub arrival : Arrival
  pub arrives_is : arrives c m.top.slot passed ≡ Some arrival
  pub x : List ℕ
  pub function : FunctionView
  pub function_is : function_at c m.top.slot ≡ Some function
  pub shallow : machine.depth m + function.depth ≤ 8
  pub state : machine.IsState m
  pub valid : IsAbstract arrival.state
  pub described : Describes p.order c.least c.most x arrival.state m
  pub block : IsBlock c arrival x budget spent

-- a step keeps it, the rest of the budget falls, and the run comes nearer to the block's end or to a lower budget
pub record Advances (p : Instructions) (c : CertificateView) (m m' : machine.State) (function : FunctionView) (budget spent : ℕ) : Type 0 where
  pub budget' : ℕ
  pub spent' : ℕ
  pub here : Here p c m' budget' spent'
  pub steps : ℕ
  pub run : Steps p steps m m'
  pub same_function : here.function ≡ function
  pub pays : budget' + (steps + spent) ≤ budget + spent'
  pub falls : (budget' < budget) ⊎ ((budget' ≡ budget) × (m.top.slot < m'.top.slot))
  pub waiting_same : m'.waiting ≡ m.waiting

-- the run comes to an EXIT in the same frame, in time
pub record ReachesExit (p : Instructions) (c : CertificateView) (m : machine.State) (function : FunctionView) (budget spent : ℕ) : Type 0 where
  pub steps : ℕ
  pub state : machine.State
  pub run : Steps p steps m state
  pub waiting_same : state.waiting ≡ m.waiting
  pub at_exit : insn_at p.list state.top.slot ≡ Some Exit
  pub value : ℕ
  pub value_is : machine.number_of_register state R0 ≡ Some value
  pub state_is : machine.IsState state
  pub context_is : LengthWithin c.least c.most state.context
  pub returns : Has function.ret value
  pub in_time : suc (steps + spent) ≤ budget
