-- What is noted of some slots, one behind the other, holds there.
use Rattle.std.specs.Prelude.{◌≡◌, ℕ, ◌+◌, ◌<◌, ◌≤◌, option_copied}
use Rattle.bpf_insn.specs.Instruction.{Instructions}
use Rattle.bpf_kept.specs.declared.bounds.Bounds.{Bounds}
use Rattle.bpf_kept.specs.declared.known.NewSlot.{NewSlot}
use Rattle.bpf_kept.specs.Matching.{Notes, HoldsAt}
use Rattle.bpf_kept.specs.Mismatches.{FailsBy, IsAt}
use Rattle.bpf_kept.specs.States.{States}
use Rattle.bpf_kept.specs.declared.mismatch.NoteFault.{NoteFault}
use Rattle.bpf_kept.specs.declared.mismatch.Mismatch.{Mismatch}

-- at so many slots from one on
abbrev pub HoldFrom : Instructions → Instructions → Notes → Bounds → States → ℕ → ℕ → Type 0
HoldFrom old new notes bounds states slot count = (n : ℕ) → n < count → HoldsAt old new notes bounds (states (slot + n)) (slot + n)

-- the lowest of them at which it doesn't, and what fails of it
pub record IsLowestFrom (old new : Instructions) (notes : Notes) (bounds : Bounds) (states : States) (first count slot before : ℕ) (fault : NoteFault) : Type 0 where
  pub from : first ≤ slot
  pub to : slot < first + count
  pub fails : HoldsAt old new notes bounds (states slot) slot → ⊥
  pub lower : (n : ℕ) → first ≤ n → n < slot → HoldsAt old new notes bounds (states n) n
  pub by : FailsBy old new notes bounds (states slot) slot before fault

abbrev pub FailsFrom : Instructions → Instructions → Notes → Bounds → States → ℕ → ℕ → Mismatch → Type 0
FailsFrom old new notes bounds states first count mismatch = IsAt (IsLowestFrom old new notes bounds states first count) mismatch

-- ---- of a new slot with its state

-- the states have a new slot's state there
abbrev pub HasStateOf : NewSlot → States → Type 0
HasStateOf at states = states at.slot ≡ option_copied at.state

-- what is noted holds at so many slots from a new slot on
abbrev pub HoldHere : Instructions → Instructions → Notes → NewSlot → States → ℕ → Type 0
HoldHere old new notes at states count = HoldFrom old new notes at.bounds states at.slot count

-- what is noted fails at one of them, and a mismatch tells the lowest
abbrev pub FailsHere : Instructions → Instructions → Notes → NewSlot → States → ℕ → Mismatch → Type 0
FailsHere old new notes at states count mismatch = FailsFrom old new notes at.bounds states at.slot count mismatch
