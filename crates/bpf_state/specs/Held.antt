-- What an abstract state tells of a place.
use Rattle.bpf_state.specs.declared.known.RegState.{RegState}
use Rattle.bpf_state.specs.declared.known.Place.{Place}
use Rattle.bpf_state.specs.declared.known.Place.TheVariants.{Register, Slot}
use Rattle.bpf_state.specs.State.{AbstractState, register, slot, slot_value}

-- what a register holds, or a slot as a whole
abbrev pub held : AbstractState → Place → RegState
held s (Register r) = register s r
held s (Slot k) = slot_value (slot s k)
