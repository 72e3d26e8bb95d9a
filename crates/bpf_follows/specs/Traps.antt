-- Which EXITs of a new program are traps, by notes. Nothing here trusts the notes.
use Rattle.std.specs.Prelude.{◌≡◌, ℕ, ◌==◌, Bool, false, not, List}
use Rattle.std.specs.Option.{option_map_or}
use Rattle.bpf_insn.specs.Instruction.{Instructions}
use Rattle.bpf_machine.specs.Answers.{IsRun}
use Rattle.bpf_machine.specs.declared.outcome.Outcome.{Outcome}
use Rattle.bpf_machine.specs.declared.outcome.Outcome.TheVariants.{Done, Fault, OutOfFuel}
use Rattle.bpf_kept.specs.declared.notes.Note.{Note}
use Rattle.bpf_kept.specs.Matching.{Notes, note_at}
use Rattle.bpf_follows.specs.Exits.{IsDoneAt}

-- nothing extra stands in front of what stands for the old instruction
abbrev pub is_body : Note → Bool
is_body note = note.extras == 0

-- The notes don't have what stands at the slot stand for an instruction of the old program.
abbrev pub is_trap : Notes → ℕ → Bool
is_trap notes slot = not (option_map_or is_body (note_at notes slot) false)

-- The run that ends with v after k instructions ends at a trap, or at another EXIT.
abbrev pub EndsByNotes : Instructions → List ℕ → Notes → (v k : ℕ) → Bool → Type 0
EndsByNotes p context notes v k at_trap = (slot : ℕ) × IsDoneAt p context slot v k × (at_trap ≡ is_trap notes slot)

-- A run that ends does so at a trap, or at another EXIT. One that doesn't end is at no trap.
abbrev pub EndsAtTrap : Instructions → List ℕ → Notes → Outcome → Bool → Type 0
EndsAtTrap p context notes (Done v k) at_trap = EndsByNotes p context notes v k at_trap
EndsAtTrap p context notes (Fault slot why k) at_trap = at_trap ≡ false
EndsAtTrap p context notes OutOfFuel at_trap = at_trap ≡ false

-- So it is of the program's run of at most so many instructions.
abbrev pub RunsToTrap : Instructions → List ℕ → Notes → (most : ℕ) → Bool → Type 0
RunsToTrap p context notes most at_trap = (outcome : Outcome) × IsRun p context most outcome × EndsAtTrap p context notes outcome at_trap
