-- Why a text is none of notes: the first line that isn't one.
use Rattle.std.specs.Prelude.{◌≡◌, ◌≢◌, ◌⊎◌, ℕ, ◌+◌, List, [], ◌++◌, length as count, Option, Result, MatchResult}
use Rattle.bpf_insn.specs.Limits.{max_slots}
use Rattle.bpf_follows.specs.declared.error.NotesError.{NotesError}
use Rattle.bpf_follows.specs.declared.error.NotesError.TheVariants.{Form, Memory}
use Rattle.bpf_follows.specs.declared.reading.NotesOfRuns.{NotesOfRuns}
use Rattle.bpf_kept.specs.declared.bounds.Bounds.{Bounds}
use Rattle.bpf_kept.specs.declared.notes.Note.{Note}
use Rattle.bpf_follows.specs.NotesText.{NoteFits, RunsFit, note_line, note_lines, head_line}

-- the text doesn't begin with a first line
abbrev pub NoHead : List ℕ → Type 0
NoHead text = (runs : Bounds) (rest : List ℕ) → RunsFit runs → text ≢ head_line runs ++ rest

-- the text doesn't begin with a line of the slot
abbrev pub NoLine : ℕ → List ℕ → Type 0
NoLine slot text = (note : Option Note) (rest : List ℕ) → NoteFits note → text ≢ note_line slot note ++ rest

-- Behind the lines of some slots, from one on, more stands there: no line of the next slot, or of more slots than a program has.
pub record StopsAt (slot : ℕ) (text : List ℕ) (line : ℕ) : Type 0 where
  pub before : List (Option Note)
  pub rest : List ℕ
  pub lines : text ≡ note_lines slot before ++ rest
  pub line_is : line ≡ slot + count before + 2
  pub more : rest ≢ []
  pub stops : (slot + count before ≡ max_slots) ⊎ NoLine (slot + count before) rest

-- the first line is one of notes, and the lines behind it stop
abbrev pub StopsBehindHead : List ℕ → ℕ → Type 0
StopsBehindHead text line = (runs : Bounds) × (rest : List ℕ) × (text ≡ head_line runs ++ rest) × StopsAt 0 rest line

abbrev pub IsRefused : List ℕ → NotesError → Type 0
IsRefused text (Form line) = ((line ≡ 1) × NoHead text) ⊎ StopsBehindHead text line
IsRefused text Memory = Unit {0}

abbrev pub refusal_number : NotesError → ℕ
refusal_number (Form line) = 1
refusal_number Memory = 2

-- the line that is refused, counted from 1; 0 for want of memory
abbrev pub refusal_line : NotesError → ℕ
refusal_line (Form line) = line
refusal_line Memory = 0

-- the notes of these runs are read, unless memory runs out
abbrev pub AreRead : Bounds → List (Option Note) → Result NotesOfRuns NotesError → Type 0
AreRead runs notes read = MatchResult read (λ r. (r.runs ≡ runs) × (r.notes.items ≡ notes)) (λ error. error ≡ Memory)
