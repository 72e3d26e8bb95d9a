-- What the abstract steps promise of the machine's steps.
use Rattle.std.specs.Prelude.{◌≡◌, ℕ, ◌≤◌, ℤ, Bool, IsTrue, List, Option, Some, None, ⊤}
use Rattle.bpf_insn.specs.declared.order.Order.{Order}
use Rattle.bpf_insn.specs.declared.instruction.Reg.{Reg}
use Rattle.bpf_insn.specs.declared.instruction.Reg.TheVariants.{R0}
use Rattle.bpf_insn.specs.declared.instruction.Insn.{Insn}
use Rattle.bpf_insn.specs.declared.instruction.Insn.TheVariants.{JumpIf, CallLocal, Exit}
use Rattle.bpf_semantics.specs.declared.reason.Reason.{Reason}
use Rattle.bpf_semantics.specs.declared.reason.Reason.TheVariants.{TooManyFrames}
use Rattle.bpf_insn.specs.Instruction.{Instructions, insn_at}
use Rattle.bpf_insn.specs.Image.{HasEncoding}
use Rattle.bpf_insn.specs.Limits.{max_context}
use Rattle.bpf_semantics.specs.State as machine
use Rattle.bpf_insn.specs.Options.{◌>>=◌}
use Rattle.bpf_semantics.specs.Step.{Step, test_of_values, operand}
use Rattle.bpf_semantics.specs.Stuck.{reason_of}
use Rattle.bpf_num.specs.Number.{Number, IsNumber, Has}
use Rattle.bpf_state.specs.State.{AbstractState, IsAbstract, first_state, callee_state, caller_state, tightened}
use Rattle.bpf_state.specs.Fault.{fault_of}
use Rattle.bpf_state.specs.Transfer.{after, branch}
use Rattle.bpf_state.specs.Entails.{state_entails}
use Rattle.bpf_safety.specs.Describes.{Describes, LengthWithin}

-- ---- a machine at an instruction, described by an abstract state without fault

pub record IsJudged (p : Instructions) (least most : ℕ) (x : List ℕ) (i : Insn) (s : AbstractState) (m : machine.State) : Type 0 where
  pub valid : IsAbstract s
  pub state : machine.IsState m
  pub stands : insn_at p.list m.top.slot ≡ Some i
  pub encoding : HasEncoding i
  pub described : Describes p.order least most x s m
  pub no_fault : fault_of least s i ≡ None

-- it isn't stuck for a reason of registers or memory: only for too many frames
abbrev pub NotStuckInside : Type 0
NotStuckInside =
    (p : Instructions) (least most : ℕ) (x : List ℕ) (i : Insn) (s : AbstractState) (m : machine.State) (why : Reason)
    → IsJudged p least most x i s m → reason_of p m ≡ Some why → why ≡ TooManyFrames

-- an instruction that neither branches nor enters or leaves a function
abbrev pub IsPlain : Insn → Type 0
IsPlain (JumpIf cond width dst src off) = ⊥
IsPlain (CallLocal off) = ⊥
IsPlain Exit = ⊥
IsPlain i = ⊤

-- the abstract state after it is there and describes the machine's next state
pub record Leads (p : Instructions) (least most : ℕ) (x : List ℕ) (s' : Option AbstractState) (m' : machine.State) : Type 0 where
  pub state : AbstractState
  pub is_there : s' ≡ Some state
  pub valid : IsAbstract state
  pub describes : Describes p.order least most x state m'

abbrev pub StepKeeps : Type 0
StepKeeps =
    (p : Instructions) (least most : ℕ) (x : List ℕ) (i : Insn) (s : AbstractState) (m m' : machine.State)
    → IsJudged p least most x i s m → IsPlain i → Step p m m' → Leads p least most x (after p.order i s) m'

-- whether the test of a conditional jump holds
abbrev pub Tests : machine.State → Insn → Bool → Type 0
Tests m (JumpIf cond width dst src off) taken = (machine.register m dst >>= λ a. operand m src >>= λ b. test_of_values width cond a b) ≡ Some taken
Tests m i taken = ⊥

abbrev pub BranchKeeps : Type 0
BranchKeeps =
    (p : Instructions) (least most : ℕ) (x : List ℕ) (i : Insn) (s : AbstractState) (m m' : machine.State) (taken : Bool)
    → IsJudged p least most x i s m → Tests m i taken → Step p m m' → Leads p least most x (branch i taken s) m'

abbrev pub EnterKeeps : Type 0
EnterKeeps =
    (p : Instructions) (least most : ℕ) (x : List ℕ) (off : ℤ) (s : AbstractState) (m m' : machine.State)
    → IsJudged p least most x (CallLocal off) s m → Step p m m' → Leads p least most x (Some (callee_state s)) m'

-- A callee comes to its EXIT and gives its number to the frame that waits: m stands at the CALL, m1 at the callee's entry, m2 at
-- its EXIT, m3 behind the CALL.
pub record IsReturn (p : Instructions) (least most : ℕ) (x : List ℕ) (off : ℤ) (s : AbstractState) (m m1 m2 m3 : machine.State) (returned : Number) (v : ℕ) : Type 0 where
  pub judged : IsJudged p least most x (CallLocal off) s m
  pub enters : Step p m m1
  pub waits : m2.waiting ≡ m1.waiting
  pub length_within : LengthWithin least most m2.context
  pub at_exit : insn_at p.list m2.top.slot ≡ Some Exit
  pub gives : machine.number_of_register m2 R0 ≡ Some v
  pub is_number : IsNumber returned
  pub has : Has returned v
  pub leaves : Step p m2 m3

-- the caller's state is then what the CALL left of it
abbrev pub LeaveKeeps : Type 0
LeaveKeeps =
    (p : Instructions) (least most : ℕ) (x : List ℕ) (off : ℤ) (s : AbstractState) (m m1 m2 m3 : machine.State) (returned : Number) (v : ℕ)
    → IsReturn p least most x off s m m1 m2 m3 returned v → Leads p least most x (caller_state returned s) m3

-- neither changes a waiting frame
abbrev pub IsCallOrExit : Insn → Type 0
IsCallOrExit (CallLocal off) = ⊤
IsCallOrExit Exit = ⊤
IsCallOrExit i = ⊥

abbrev pub WaitingFramesStay : Type 0
WaitingFramesStay =
    (p : Instructions) (least most : ℕ) (x : List ℕ) (i : Insn) (s : AbstractState) (m m' : machine.State)
    → IsJudged p least most x i s m → (IsCallOrExit i → ⊥) → Step p m m' → m'.waiting ≡ m.waiting

abbrev pub StartDescribes : Type 0
StartDescribes =
    (order : Order) (least most : ℕ) (context : List ℕ) (x : List ℕ)
    → LengthWithin least most context → most ≤ max_context → Describes order least most x (first_state least most) (machine.start context)

abbrev pub StartIsAbstract : Type 0
StartIsAbstract = (least most : ℕ) → least ≤ most → most ≤ max_context → IsAbstract (first_state least most)

abbrev pub TightenedDescribes : Type 0
TightenedDescribes =
    (p : Instructions) (least most : ℕ) (x : List ℕ) (s : AbstractState) (m : machine.State)
    → IsAbstract s → Describes p.order least most x s m → Leads p least most x (tightened s) m

-- tags aside: what the first describes, the second describes with any tags of which the equations hold
abbrev pub EntailsDescribes : Type 0
EntailsDescribes =
    (order : Order) (least most : ℕ) (x : List ℕ) (s t : AbstractState) (m : machine.State)
    → IsAbstract s → IsAbstract t → IsTrue (state_entails s t) → Describes order least most x s m
    → Describes order least most x (record t { register_tags = s.register_tags; slot_tags = s.slot_tags }) m
