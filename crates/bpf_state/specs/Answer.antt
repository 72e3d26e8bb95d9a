-- What the calls that change a state answer, against the definitions.
use Rattle.std.specs.Prelude.{◌≡◌, Bool, true, false, List, Option, Some, None, Result, Ok, Err, if◌then◌else◌}
use Rattle.bpf_state.specs.declared.fault.StateFault.{StateFault}
use Rattle.bpf_state.specs.State.{AbstractState, no_tags}
use Rattle.bpf_state.specs.Condition.{fault_number}
use Rattle.bpf_state.specs.Transfer.{Outcome, Faulty, Dead, Live}

-- the outcome that an answer tells together with the state that it leaves
abbrev pub outcome_told : Result Bool StateFault → AbstractState → Outcome
outcome_told (Err fault) s = Faulty (fault_number fault)
outcome_told (Ok false) s = Dead
outcome_told (Ok true) s = Live s

-- the state is as it was unless the instruction was done
abbrev pub KeepsUnlessDone : Result Bool StateFault → AbstractState → AbstractState → Type 0
KeepsUnlessDone (Ok true) old new = Unit {0}
KeepsUnlessDone answer old new = new ≡ old

-- the same for an edge, which is alive or dead
abbrev pub edge_told : Bool → AbstractState → Option AbstractState
edge_told alive s = if alive then Some s else None

abbrev pub list_told : {A : Type 0} → Bool → List A → Option (List A)
list_told whole xs = if whole then Some xs else None

abbrev pub without_tags : AbstractState → AbstractState
without_tags s = record s { register_tags = no_tags 11; slot_tags = no_tags 64 }
