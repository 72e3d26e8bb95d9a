-- Notes at a name.
use Rattle.std.specs.Prelude.{◌≡◌, ◌⊎◌, ◌<◌, ℕ, ◌+◌, ◌*◌, List, length, Result, MatchResult}
use Rattle.std.specs.List.{AllByRecursion}
use Rattle.bpf_insn.specs.Limits.{max_slots}
use Rattle.bpf_kept.specs.Matching.{Notes}
use Rattle.bpf_kept.specs.declared.bounds.Bounds.{Bounds}
use Rattle.bpf_follows.specs.NotesText.{WholeIfAny, notes_text}
use Rattle.bpf_follows.specs.Refused.{IsRefused}
use Rattle.bpf_follows.specs.declared.error.NotesError.{NotesError}
use Rattle.bpf_follows.specs.declared.reading.NotesOfRuns.{NotesOfRuns}
use Rattle.bpf_answers.specs.Opened.{Opening, Unreadable}
use Rattle.bpf_answers.specs.Loaded.{TextAt}
use Rattle.bpf_answers.specs.Told.{OutputFails}
use Rattle.bpf_answers.specs.declared.failure.Failure.{Failure}
use Rattle.bpf_answers.specs.declared.failure.Failure.TheVariants.{CannotRead}

-- the greatest length of a text of notes that is read, in bytes: no line is longer than 4000
abbrev pub max_notes : ℕ
max_notes = 4000 * (max_slots + 1)

-- the text at the name is that of the notes, which speak of these runs, and each note is whole
abbrev pub LoadsNotes : {S : Type 0} → Opening S → S → List ℕ → S → Bounds → Notes → Type 0
LoadsNotes opening old name new runs notes = TextAt opening old name new (λ text. AllByRecursion WholeIfAny notes × (text ≡ notes_text runs notes))

abbrev pub NotesRefused : {S : Type 0} → Opening S → S → List ℕ → S → NotesError → Type 0
NotesRefused opening old name new e = TextAt opening old name new (λ text. IsRefused text e)

-- the notes that were read at the name, or why their text is refused
abbrev pub ReadsNotesAt : {S : Type 0} → Opening S → S → List ℕ → S → Result NotesOfRuns NotesError → Type 0
ReadsNotesAt opening old name new read = MatchResult read (λ r. LoadsNotes opening old name new r.runs r.notes.items) (NotesRefused opening old name new)

-- the name can't be opened, its reader fails, or its text is longer
abbrev pub NotesUnread : {S : Type 0} → Opening S → S → List ℕ → S → Type 0
NotesUnread opening old name new = Unreadable opening old name new ⊎ TextAt opening old name new (λ text. max_notes < length text)

abbrev pub NotesFail : {S : Type 0} → Opening S → S → List ℕ → S → Failure → Type 0
NotesFail opening old notes new (CannotRead name) = (name.now ≡ notes) × NotesUnread opening old notes new
NotesFail opening old notes new failure = OutputFails failure
