-- In front of which old instruction a guard stands, as the code hands it on.
use Rattle.bpf_insn.specs.Instruction.{Instructions}
use Rattle.bpf_kept.specs.Guards.{Front}
use Rattle.bpf_kept.specs.declared.guards.GuardSite.{GuardSite}
use Rattle.bpf_kept.specs.declared.known.NewSlot.{NewSlot}
use Rattle.bpf_kept.specs.declared.notes.Note.{Note}

abbrev pub front : Instructions → GuardSite → Front
front old site = record { old = old; slot = site.slot; bounds = site.bounds }

-- A guard at a new slot stands in front of the old instruction that the slot's note names.
abbrev pub front_at : Instructions → NewSlot → Note → Front
front_at old at note = record { old = old; slot = note.old; bounds = at.bounds }
