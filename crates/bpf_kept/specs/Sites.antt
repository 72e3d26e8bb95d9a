-- Whether what is noted of a new slot holds there, and what fails of it, as the code hands the slot on.
use Rattle.std.specs.Prelude.{◌≡◌, ◌⊎◌, ◌-◌, option_copied}
use Rattle.bpf_insn.specs.Instruction.{Instructions}
use Rattle.bpf_kept.specs.Matching.{Notes, IsBody, IsExtra, HoldsAt}
use Rattle.bpf_kept.specs.Mismatches.{IsNoBody, IsBodyFault, IsNoExtra, IsExtraFault, IsEitherFault, FailsBy, IsAt}
use Rattle.bpf_kept.specs.declared.known.NewSlot.{NewSlot}
use Rattle.bpf_kept.specs.declared.mismatch.Mismatch.{Mismatch}
use Rattle.bpf_kept.specs.declared.mismatch.NoteFault.{NoteFault}
use Rattle.bpf_kept.specs.declared.notes.Note.{Note}

-- ---- what holds

-- The instruction at the new slot stands for the old one that its note names.
abbrev pub IsBodyAt : (old new : Instructions) → Notes → NewSlot → Note → Type 0
IsBodyAt old new notes at note = IsBody old new notes at.bounds (option_copied at.state) at.slot note

-- The instruction at the new slot is an extra one, and the next one has fewer extra ones in front.
abbrev pub IsExtraAt : (old new : Instructions) → Notes → NewSlot → Note → Type 0
IsExtraAt old new notes at note = IsExtra old new notes at.bounds (option_copied at.state) at.slot note (note.extras - 1)

-- What is noted of the new slot, if anything, holds there.
abbrev pub HoldsAtSlot : (old new : Instructions) → Notes → NewSlot → Type 0
HoldsAtSlot old new notes at = HoldsAt old new notes at.bounds (option_copied at.state) at.slot

-- ---- what fails

-- The fault tells why the instruction doesn't stand for the old one that its note names.
abbrev pub BodyFails : (old new : Instructions) → Notes → NewSlot → Note → NoteFault → Type 0
BodyFails old new notes at note fault = IsNoBody old new at.slot note fault ⊎ IsBodyFault old new notes at.bounds (option_copied at.state) at.slot note fault

-- The fault tells why the instruction is no extra one, as its note has it.
abbrev pub ExtraFails : (old new : Instructions) → NewSlot → Note → NoteFault → Type 0
ExtraFails old new at note fault = IsNoExtra new at.slot fault ⊎ IsExtraFault old new at.bounds (option_copied at.state) at.slot note fault

-- The fault tells why what the note says of the new slot doesn't hold.
abbrev pub NoteFails : (old new : Instructions) → Notes → NewSlot → Note → NoteFault → Type 0
NoteFails old new notes at note fault = IsEitherFault old new notes at.bounds (option_copied at.state) at.slot note fault note.extras

-- The mismatch names the new slot and the old one, and tells what fails there.
abbrev pub IsMismatchAt : (old new : Instructions) → Notes → NewSlot → Mismatch → Type 0
IsMismatchAt old new notes at = IsAt (λ slot before fault. (slot ≡ at.slot) × FailsBy old new notes at.bounds (option_copied at.state) slot before fault)
