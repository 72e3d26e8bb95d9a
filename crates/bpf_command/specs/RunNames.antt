-- Which names a command that runs a program opens, in which order.
use Rattle.std.specs.Prelude.{ℕ, List, [], ◌∷◌}
use Rattle.bpf_command.specs.declared.request.asking.CheckedRunning.{CheckedRunning}
use Rattle.bpf_command.specs.declared.request.asking.Running.{Running}
use Rattle.bpf_command.specs.declared.request.contexts.Contexts.{Contexts}
use Rattle.bpf_command.specs.declared.request.contexts.Contexts.TheVariants.{Word, Bytes, Lines, Nothing, Several}
use Rattle.bpf_command.specs.Noted.{behind_notes}

-- the image, behind the context at a name, or before the lines at one
abbrev pub names_run_on : List ℕ → Contexts → List (List ℕ)
names_run_on input (Word hex) = input ∷ []
names_run_on input (Bytes name) = name.now ∷ input ∷ []
names_run_on input (Lines name) = input ∷ name.now ∷ []
names_run_on input Nothing = []
names_run_on input Several = []

-- the same with a certificate
abbrev pub names_checked_on : (input certificate : List ℕ) → Contexts → List (List ℕ)
names_checked_on input certificate (Word hex) = input ∷ certificate ∷ []
names_checked_on input certificate (Bytes name) = name.now ∷ input ∷ certificate ∷ []
names_checked_on input certificate (Lines name) = input ∷ certificate ∷ name.now ∷ []
names_checked_on input certificate Nothing = []
names_checked_on input certificate Several = []

-- behind the notes, where they are asked for
abbrev pub names_run : Running → List (List ℕ)
names_run r = behind_notes r.notes (names_run_on r.input.now r.contexts)

abbrev pub names_checked : CheckedRunning → List (List ℕ)
names_checked r = behind_notes r.notes (names_checked_on r.input.now r.certificate.now r.contexts)
