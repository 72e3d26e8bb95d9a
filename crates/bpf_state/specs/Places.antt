-- What a state knows of a place, the places in their order, and the first of which something holds.
use Rattle.std.specs.Prelude.{◌≡◌, ℕ, ◌+◌, ◌<◌, nat_le, Bool, true, false, ◌&&◌, if◌then◌else◌, is_none}
use Rattle.bpf_insn.specs.Instruction.{register_number}
use Rattle.bpf_state.specs.declared.known.Place.{Place}
use Rattle.bpf_state.specs.declared.known.Place.TheVariants.{Register, Slot}
use Rattle.bpf_state.specs.declared.known.SlotState.{SlotState}
use Rattle.bpf_state.specs.declared.known.SlotState.TheVariants.{Bytes}
use Rattle.bpf_state.specs.State.{AbstractState, IsPlace, register, slot, with_register, with_slot, value_slot, tightened_register, tightened_slot}
use Rattle.bpf_state.specs.Entails.{register_entails, slot_entails}

abbrev pub is_slot_number : ℕ → Bool
is_slot_number k = nat_le 1 k && nat_le k 64

-- what is known of a place, of a register as of a slot that holds the same; nothing of a slot that isn't there
abbrev pub content : AbstractState → Place → SlotState
content s (Register r) = value_slot (register s r)
content s (Slot k) = if is_slot_number k then slot s k else Bytes 0

-- a state with what another one knows of a place
abbrev pub taken_over : AbstractState → AbstractState → Place → AbstractState
taken_over s other (Register r) = with_register s r (register other r)
taken_over s other (Slot k) = if is_slot_number k then with_slot s k (slot other k) else s

-- r0 to r10, and then the slots
abbrev pub place_number : Place → ℕ
place_number (Register r) = register_number r
place_number (Slot k) = 10 + k

-- the first place that passes a test
pub record IsFirstPlace (test : Place → Bool) (place : Place) : Type 0 where
  pub placed : IsPlace place
  pub passes : test place ≡ true
  pub first : (p : Place) → IsPlace p → place_number p < place_number place → test p ≡ false

-- what a state knows of a place lies in what another one does
abbrev pub entails_at : AbstractState → AbstractState → Place → Bool
entails_at s t (Register r) = register_entails (register s r) (register t r)
entails_at s t (Slot k) = slot_entails (slot s k) (slot t k)

-- what a state knows of a place is a number without a member
abbrev pub is_empty_at : AbstractState → Place → Bool
is_empty_at s (Register r) = is_none (tightened_register (register s r))
is_empty_at s (Slot k) = is_none (tightened_slot (slot s k))
