-- States of which a label's lines can tell: r10 is at the frame's end, and no place holds a counter.
use Rattle.std.specs.Prelude.{◌≡◌, ◌∷◌, [], ◌++◌, take}
use Rattle.bpf_insn.specs.declared.instruction.Reg.TheVariants.{R10}
use Rattle.bpf_state.specs.declared.known.RegState.TheVariants.{Ptr}
use Rattle.bpf_state.specs.declared.known.Area.TheVariants.{Frame}
use Rattle.bpf_state.specs.State.{AbstractState, IsAbstractState, register, no_tags, start_of, blank}

pub record IsBare (s : AbstractState) : Type 0 where
  pub state : IsAbstractState s
  pub end : register s R10 ≡ Ptr (start_of Frame)
  pub register_tags : s.register_tags ≡ no_tags 11
  pub slot_tags : s.slot_tags ≡ no_tags 64

-- what a state knows of r0 to r9 and of the slots
abbrev pub bare : AbstractState → AbstractState
bare s = record blank { registers = take 10 s.registers ++ Ptr (start_of Frame) ∷ []; slots = s.slots }
