-- What is said of runs beside notes, and when the notes' name is opened.
use Rattle.std.specs.Prelude.{◌≡◌, ℕ, Bool, false, ⊤, List, ◌∷◌, Option, Some, None, option_map}
use Rattle.std.specs.Borrow.{Bor}
use Rattle.bpf_insn.specs.Instruction.{Instructions}
use Rattle.bpf_machine.specs.declared.outcome.Outcome.{Outcome}
use Rattle.bpf_machine.specs.declared.outcome.Outcome.TheVariants.{Done, Fault, OutOfFuel}
use Rattle.bpf_check.specs.CheckedProgram.{CheckedProgram}
use Rattle.bpf_kept.specs.Matching.{Notes}
use Rattle.bpf_follows.specs.Traps.{EndsByNotes}

-- ---- a run, and what it says beside notes

-- the notes that are asked for, if any are
abbrev pub noted_in : Option (Bor Notes) → Option Notes
noted_in notes = option_map (λ n. n.now) notes

-- The run that ends with v does so at a trap, or at another EXIT. Without notes no trap is told.
abbrev pub EndsAsNoted : Option Notes → Instructions → List ℕ → ℕ → Bool → Type 0
EndsAsNoted None p context v at_trap = at_trap ≡ false
EndsAsNoted (Some notes) p context v at_trap = (k : ℕ) × EndsByNotes p context notes v k at_trap

-- If the run ends with a number, it is at no trap.
abbrev pub IsUntrapped : Option Notes → Instructions → List ℕ → Outcome → Type 0
IsUntrapped noted p context (Done v k) = EndsAsNoted noted p context v false
IsUntrapped noted p context (Fault slot reason k) = ⊤
IsUntrapped noted p context OutOfFuel = ⊤

-- a checked program beside notes, as what answers contexts
pub record Answering : Type 0 where
  pub checked : CheckedProgram
  pub noted : Option Notes

-- ---- the names of notes

-- the notes' name is opened before these
abbrev pub behind_notes : Option (Bor (List ℕ)) → List (List ℕ) → List (List ℕ)
behind_notes None names = names
behind_notes (Some name) names = name.now ∷ names
