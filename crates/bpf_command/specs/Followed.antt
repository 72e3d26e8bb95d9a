-- What is said of two images, of notes, and of the certificate beside which they are to show that the one program keeps the meaning of the other.
use Rattle.std.specs.Prelude.{◌≡◌, ◌⊎◌}
use Rattle.bpf_insn.specs.Instruction.{Instructions}
use Rattle.bpf_kept.specs.Matching.{Notes, shown_turns}
use Rattle.bpf_kept.specs.Mismatches.{MatchesBeside, IsMismatch}
use Rattle.bpf_kept.specs.Shown.{Keeps}
use Rattle.bpf_kept.specs.declared.bounds.Bounds.{Bounds}
use Rattle.bpf_check.specs.CheckedProgram.{CheckedProgram}
use Rattle.bpf_command.specs.declared.request.following.Following.{Following}
use Rattle.bpf_command.specs.declared.commands.follows.NotedPair.{NotedPair}
use Rattle.bpf_answers.specs.Opened.{Opening}
use Rattle.bpf_answers.specs.Loaded.{CertificateFails, ImageFails, ImageRefused, LoadsImage}
use Rattle.bpf_answers.specs.Notes.{LoadsNotes, NotesFail, NotesRefused}
use Rattle.bpf_answers.specs.declared.answer.Answer.{Answer}
use Rattle.bpf_answers.specs.declared.answer.Answer.TheVariants.{Follows, NoNew, NoNotes, NoOld, NotFollowed}
use Rattle.bpf_answers.specs.Told.{OutputFails}
use Rattle.bpf_answers.specs.declared.failure.Failure.{Failure}
use Rattle.bpf_answers.specs.declared.failure.Failure.TheVariants.{CannotRead}
use Rattle.bpf_command.specs.Printed.{JudgedSays}

-- Of an old program, notes for these runs, and a new one that its certificate certifies: what of the notes beside it fails, or that they match, by which
-- the new program keeps the meaning of the old one; of how many turns, which is any number where no note has a counter; and the certificate's bound.
abbrev pub ShownSays : Instructions → Bounds → Notes → CheckedProgram → Answer → Type 0
ShownSays p runs notes k (NotFollowed m) = IsMismatch p k.program notes k.certificate runs m
ShownSays p runs notes k (Follows bounds turns bound) =
    (bounds ≡ runs) × (turns ≡ shown_turns notes runs.turns) × (bound ≡ k.certificate.steps) × Keeps p k.program notes runs × MatchesBeside p k.program notes k.certificate runs
ShownSays p runs notes k answer = ⊥

-- what the notes that were read for some runs say of a pair of programs
abbrev pub PairSays : NotedPair → CheckedProgram → Answer → Type 0
PairSays pair = ShownSays pair.old.now pair.noted.now.runs pair.noted.now.notes.items

-- Of two programs: why the text of notes is refused, or what is said of the notes and the certificate. The notes are judged before the certificate's name
-- is opened.
abbrev pub NotedSays : {S : Type 0} → Opening S → S → Following → S → (p q : Instructions) → Answer → Type 0
NotedSays opening old f new p q (NoNotes e) = NotesRefused opening old f.notes.now new e
NotedSays {S} opening old f new p q answer =
    (between : S) × (runs : Bounds) × (notes : Notes) × LoadsNotes opening old f.notes.now between runs notes
    × JudgedSays opening between f.certificate.now new q (ShownSays p runs notes) answer

abbrev pub NotedFails : {S : Type 0} → Opening S → S → Following → S → Failure → Type 0
NotedFails {S} opening old f new (CannotRead name) =
    NotesFail opening old f.notes.now new (CannotRead name)
    ⊎ ((between : S) × (runs : Bounds) × (notes : Notes) × LoadsNotes opening old f.notes.now between runs notes
    × CertificateFails opening between f.certificate.now new (CannotRead name))
NotedFails opening old f new failure = OutputFails failure

-- the new image is judged before the notes' name is opened
abbrev pub RewrittenSays : {S : Type 0} → Opening S → S → Following → S → Instructions → Answer → Type 0
RewrittenSays opening old f new p (NoNew e) = ImageRefused opening f.order old f.rewritten.now new e
RewrittenSays {S} opening old f new p answer =
    (between : S) × (q : Instructions) × LoadsImage opening f.order old f.rewritten.now between q × NotedSays opening between f new p q answer

abbrev pub RewrittenFails : {S : Type 0} → Opening S → S → Following → S → Failure → Type 0
RewrittenFails {S} opening old f new (CannotRead name) =
    ImageFails opening old f.rewritten.now new (CannotRead name)
    ⊎ ((between : S) × (q : Instructions) × LoadsImage opening f.order old f.rewritten.now between q
    × NotedFails opening between f new (CannotRead name))
RewrittenFails opening old f new failure = OutputFails failure

-- the old image is judged before the new one's name is opened
abbrev pub FollowsSays : {S : Type 0} → Opening S → S → Following → S → Answer → Type 0
FollowsSays opening old f new (NoOld e) = ImageRefused opening f.order old f.original.now new e
FollowsSays {S} opening old f new answer =
    (between : S) × (p : Instructions) × LoadsImage opening f.order old f.original.now between p × RewrittenSays opening between f new p answer

abbrev pub FollowsFails : {S : Type 0} → Opening S → S → Following → S → Failure → Type 0
FollowsFails {S} opening old f new (CannotRead name) =
    ImageFails opening old f.original.now new (CannotRead name)
    ⊎ ((between : S) × (p : Instructions) × LoadsImage opening f.order old f.original.now between p
    × RewrittenFails opening between f new (CannotRead name))
FollowsFails opening old f new failure = OutputFails failure
