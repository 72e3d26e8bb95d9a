-- The slots as their byte masks and what they hold as a whole.
use Rattle.std.specs.Prelude.{◌≡◌, ℕ, ◌==◌, List, [], ◌∷◌, length, if◌then◌else◌}
use Rattle.bpf_state.specs.declared.known.SlotState.{SlotState}
use Rattle.bpf_state.specs.declared.known.SlotState.TheVariants.{Bytes, Word, Spilled}
use Rattle.bpf_state.specs.declared.masked.Whole.{Whole}
use Rattle.bpf_state.specs.declared.masked.Whole.TheVariants.{Word as Number, Ptr as Pointer}

abbrev pub whole_slot : Whole → SlotState
whole_slot (Number n) = Word n
whole_slot (Pointer p) = Spilled p

-- a full mask says that the slot holds something whole
abbrev pub held : ℕ → Whole → SlotState
held mask whole = if mask == 255 then whole_slot whole else Bytes mask

abbrev pub held_slots : List ℕ → List Whole → List SlotState
held_slots (mask ∷ masks) (whole ∷ wholes) = held mask whole ∷ held_slots masks wholes
held_slots _ _ = []

-- the mask of a slot, which is full where something whole is held
abbrev pub mask_of : SlotState → ℕ
mask_of (Bytes mask) = mask
mask_of _ = 255

-- the 64 slots of a frame
pub record AreSlots (masks : List ℕ) (wholes : List Whole) : Type 0 where
  pub mask_count : length masks ≡ 64
  pub whole_count : length wholes ≡ 64
