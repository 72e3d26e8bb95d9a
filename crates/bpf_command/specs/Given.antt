-- What a command answers by the contexts that are given: one by a word, one at a name, or those of the lines at a name.
use Rattle.std.specs.Prelude.{◌≡◌, ◌⊎◌, ℕ, List, Option, Some, None, Ok}
use Rattle.std.specs.Borrow.{Bor}
use Rattle.bpf_insn.specs.Instruction.{Instructions}
use Rattle.bpf_command.specs.declared.request.asking.Running.{Running}
use Rattle.bpf_command.specs.declared.request.asking.CheckedRunning.{CheckedRunning}
use Rattle.bpf_command.specs.declared.commands.judged.NotedRunning.{NotedRunning}
use Rattle.bpf_cert.specs.View.{CertificateView}
use Rattle.bpf_check.specs.CheckedProgram.{IsCertifiedBy, checked}
use Rattle.bpf_answers.specs.Context.{context_in}
use Rattle.bpf_answers.specs.Opened.{Opening}
use Rattle.bpf_answers.specs.Loaded.{LoadsImage, ImageFails, CertificateAt, CertificateFails, ContextAt, ContextFails}
use Rattle.std.specs.Io.KnownBytes.{Keeps}
use Rattle.bpf_answers.specs.declared.answer.Answer.{Answer}
use Rattle.bpf_answers.specs.declared.reply.Reply.{Reply}
use Rattle.bpf_answers.specs.declared.reply.Reply.TheVariants.{One, Each}
use Rattle.bpf_answers.specs.Each.{AnswersAt, FailsAt, LeftAt}
use Rattle.bpf_kept.specs.Matching.{Notes}
use Rattle.bpf_kept.specs.declared.bounds.Bounds.{Bounds}
use Rattle.bpf_answers.specs.Notes.{LoadsNotes, NotesFail, NotesRefused}
use Rattle.bpf_answers.specs.declared.answer.Answer.TheVariants.{NoNotes}
use Rattle.bpf_command.specs.Noted.{noted_in}
use Rattle.bpf_command.specs.Printed.{FailsWith, ImageSays, JudgedSays, LoadedFails, OutcomeSays, ResultSays, RunCheckedSays}
use Rattle.bpf_command.specs.declared.request.contexts.Contexts.{Contexts}
use Rattle.bpf_command.specs.declared.request.contexts.Contexts.TheVariants.{Word, Bytes, Lines, Nothing, Several}
use Rattle.bpf_answers.specs.declared.failure.Failure.{Failure}
use Rattle.bpf_answers.specs.declared.failure.Failure.TheVariants.{NoContext, ContextTwice}

-- ---- contexts

-- the context is judged first, then what is behind it
abbrev pub FailsBehind : {S : Type 0} → Opening S → S → List ℕ → S → (S → Failure → Type 0) → Failure → Type 0
FailsBehind {S} opening old name new fails failure =
    ContextFails opening old name new failure ⊎ ((between : S) × (context : List ℕ) × ContextAt opening old name between context × fails between failure)

-- what is answered on the context that the word spells
abbrev pub OnWord : List ℕ → (List ℕ → Answer → Type 0) → Answer → Type 0
OnWord hex says answer = (context : List ℕ) × (context_in hex ≡ Ok context) × says context answer

-- what is answered on the context at a name
abbrev pub OnNamed : {S : Type 0} → Opening S → S → List ℕ → (S → List ℕ → Answer → Type 0) → Answer → Type 0
OnNamed {S} opening old name says answer = (context : List ℕ) × (between : S) × ContextAt opening old name between context × says between context answer

-- ---- one answer, or many

-- one answer, of which this holds, and nothing was printed
abbrev pub Replies : (Answer → Type 0) → Option (List ℕ) → Option (List ℕ) → Reply → Type 0
Replies says before after (One answer) = says answer × Keeps before after
Replies says before after (Each status) = ⊥

-- answers that were printed, of which this holds
abbrev pub RepliesEach : (Option (List ℕ) → Option (List ℕ) → ℕ → Type 0) → Option (List ℕ) → Option (List ℕ) → Reply → Type 0
RepliesEach says before after (One answer) = ⊥
RepliesEach says before after (Each status) = says before after status

-- ---- runs

-- what is answered on one context
abbrev pub OneRunSays : {S : Type 0} → Opening S → S → Running → Option Notes → S → List ℕ → Answer → Type 0
OneRunSays opening old r noted new context = ImageSays opening r.order old r.input.now new (OutcomeSays noted context r.steps)

-- the image is refused, or its program answers each context
abbrev pub RunEachSays : {S : Type 0} → Opening S → S → Running → Option Notes → Bor (List ℕ) → S → Option (List ℕ) → Option (List ℕ) → Reply → Type 0
RunEachSays {S} opening old r noted name new before after reply =
    Replies (ImageSays opening r.order old r.input.now new (λ p x. ⊥)) before after reply
    ⊎ ((between : S) × (p : Instructions) × LoadsImage opening r.order old r.input.now between p
    × RepliesEach (AnswersAt opening between name.now new (λ context. OutcomeSays noted context r.steps p)) before after reply)

abbrev pub RunEachFails : {S : Type 0} → Opening S → S → Running → Option Notes → Bor (List ℕ) → S → Option (List ℕ) → Option (List ℕ) → Failure → Type 0
RunEachFails {S} opening old r noted name new before after failure =
    ImageFails opening old r.input.now new failure
    ⊎ ((between : S) × (p : Instructions) × LoadsImage opening r.order old r.input.now between p
    × FailsAt opening between name.now new (λ context. OutcomeSays noted context r.steps p) before after failure)

-- where that fails nothing was printed, or the first lines were answered
abbrev pub RunEachLeaves : {S : Type 0} → Opening S → S → Running → Option Notes → Bor (List ℕ) → S → Option (List ℕ) → Option (List ℕ) → Type 0
RunEachLeaves {S} opening old r noted name new before after =
    Keeps before after
    ⊎ ((between : S) × (p : Instructions) × LoadsImage opening r.order old r.input.now between p
    × LeftAt opening between name.now new (λ context. OutcomeSays noted context r.steps p) before after)

abbrev pub RunOnSays : {S : Type 0} → Opening S → S → Running → Option Notes → Contexts → S → Option (List ℕ) → Option (List ℕ) → Reply → Type 0
RunOnSays opening old r noted (Word hex) new = Replies (OnWord hex.now (OneRunSays opening old r noted new))
RunOnSays opening old r noted (Bytes name) new = Replies (OnNamed opening old name.now (λ between. OneRunSays opening between r noted new))
RunOnSays opening old r noted (Lines name) new = RunEachSays opening old r noted name new
RunOnSays opening old r noted Nothing new = λ before after reply. ⊥
RunOnSays opening old r noted Several new = λ before after reply. ⊥

abbrev pub RunOnFails : {S : Type 0} → Opening S → S → Running → Option Notes → Contexts → S → Option (List ℕ) → Option (List ℕ) → Failure → Type 0
RunOnFails opening old r noted (Word hex) new before after failure = FailsWith old new hex.now (ImageFails opening old r.input.now new) failure
RunOnFails opening old r noted (Bytes name) new before after failure = FailsBehind opening old name.now new (λ between. ImageFails opening between r.input.now new) failure
RunOnFails opening old r noted (Lines name) new before after failure = RunEachFails opening old r noted name new before after failure
RunOnFails opening old r noted Nothing new before after failure = (failure ≡ NoContext) × (new ≡ old)
RunOnFails opening old r noted Several new before after failure = (failure ≡ ContextTwice) × (new ≡ old)

abbrev pub RunOnLeaves : {S : Type 0} → Opening S → S → Running → Option Notes → Contexts → S → Option (List ℕ) → Option (List ℕ) → Type 0
RunOnLeaves opening old r noted (Word hex) new = Keeps
RunOnLeaves opening old r noted (Bytes name) new = Keeps
RunOnLeaves opening old r noted (Lines name) new = RunEachLeaves opening old r noted name new
RunOnLeaves opening old r noted Nothing new = Keeps
RunOnLeaves opening old r noted Several new = Keeps

-- what a run answers on the contexts that are asked for
abbrev pub RunGivenSays : {S : Type 0} → Opening S → S → Running → Option Notes → S → Option (List ℕ) → Option (List ℕ) → Reply → Type 0
RunGivenSays opening old r noted new = RunOnSays opening old r noted r.contexts new

-- why it fails on them
abbrev pub RunGivenFails : {S : Type 0} → Opening S → S → Running → Option Notes → S → Option (List ℕ) → Option (List ℕ) → Failure → Type 0
RunGivenFails opening old r noted new before after = RunOnFails opening old r noted r.contexts new before after

-- what it has printed where it fails on them
abbrev pub RunGivenLeaves : {S : Type 0} → Opening S → S → Running → Option Notes → S → Option (List ℕ) → Option (List ℕ) → Type 0
RunGivenLeaves opening old r noted new = RunOnLeaves opening old r noted r.contexts new

-- ---- checked runs

-- what is answered on one context
abbrev pub OneCheckedSays : {S : Type 0} → Opening S → S → CheckedRunning → Option Notes → S → List ℕ → Answer → Type 0
OneCheckedSays opening old r noted new = RunCheckedSays opening r.order old r.input.now r.certificate.now noted new

abbrev pub OneCheckedFails : {S : Type 0} → Opening S → S → CheckedRunning → S → Failure → Type 0
OneCheckedFails opening old r new = LoadedFails opening r.order old r.input.now r.certificate.now new

-- the certificate is refused, or the checked program answers each context of the lines at a name
abbrev pub JudgedEachSays : {S : Type 0} → Opening S → S → CheckedRunning → Option Notes → Bor (List ℕ) → S → Instructions → Option (List ℕ) → Option (List ℕ) → Reply → Type 0
JudgedEachSays {S} opening old r noted name new p before after reply =
    Replies (JudgedSays opening old r.certificate.now new p (λ k x. ⊥)) before after reply
    ⊎ ((between : S) × (c : CertificateView) × CertificateAt opening old r.certificate.now between c × IsCertifiedBy p c
    × RepliesEach (AnswersAt opening between name.now new (λ context. ResultSays noted context (checked p c))) before after reply)

abbrev pub JudgedEachFails : {S : Type 0} → Opening S → S → CheckedRunning → Option Notes → Bor (List ℕ) → S → Instructions → Option (List ℕ) → Option (List ℕ) → Failure → Type 0
JudgedEachFails {S} opening old r noted name new p before after failure =
    CertificateFails opening old r.certificate.now new failure
    ⊎ ((between : S) × (c : CertificateView) × CertificateAt opening old r.certificate.now between c × IsCertifiedBy p c
    × FailsAt opening between name.now new (λ context. ResultSays noted context (checked p c)) before after failure)

abbrev pub JudgedEachLeaves : {S : Type 0} → Opening S → S → CheckedRunning → Option Notes → Bor (List ℕ) → S → Instructions → Option (List ℕ) → Option (List ℕ) → Type 0
JudgedEachLeaves {S} opening old r noted name new p before after =
    Keeps before after
    ⊎ ((between : S) × (c : CertificateView) × CertificateAt opening old r.certificate.now between c × IsCertifiedBy p c
    × LeftAt opening between name.now new (λ context. ResultSays noted context (checked p c)) before after)

-- the image is refused, or what is said of its program and the certificate
abbrev pub CheckedEachSays : {S : Type 0} → Opening S → S → CheckedRunning → Option Notes → Bor (List ℕ) → S → Option (List ℕ) → Option (List ℕ) → Reply → Type 0
CheckedEachSays {S} opening old r noted name new before after reply =
    Replies (ImageSays opening r.order old r.input.now new (λ p x. ⊥)) before after reply
    ⊎ ((between : S) × (p : Instructions) × LoadsImage opening r.order old r.input.now between p
    × JudgedEachSays opening between r noted name new p before after reply)

abbrev pub CheckedEachFails : {S : Type 0} → Opening S → S → CheckedRunning → Option Notes → Bor (List ℕ) → S → Option (List ℕ) → Option (List ℕ) → Failure → Type 0
CheckedEachFails {S} opening old r noted name new before after failure =
    ImageFails opening old r.input.now new failure
    ⊎ ((between : S) × (p : Instructions) × LoadsImage opening r.order old r.input.now between p
    × JudgedEachFails opening between r noted name new p before after failure)

abbrev pub CheckedEachLeaves : {S : Type 0} → Opening S → S → CheckedRunning → Option Notes → Bor (List ℕ) → S → Option (List ℕ) → Option (List ℕ) → Type 0
CheckedEachLeaves {S} opening old r noted name new before after =
    Keeps before after
    ⊎ ((between : S) × (p : Instructions) × LoadsImage opening r.order old r.input.now between p
    × JudgedEachLeaves opening between r noted name new p before after)

abbrev pub CheckedOnSays : {S : Type 0} → Opening S → S → CheckedRunning → Option Notes → Contexts → S → Option (List ℕ) → Option (List ℕ) → Reply → Type 0
CheckedOnSays opening old r noted (Word hex) new = Replies (OnWord hex.now (OneCheckedSays opening old r noted new))
CheckedOnSays opening old r noted (Bytes name) new = Replies (OnNamed opening old name.now (λ between. OneCheckedSays opening between r noted new))
CheckedOnSays opening old r noted (Lines name) new = CheckedEachSays opening old r noted name new
CheckedOnSays opening old r noted Nothing new = λ before after reply. ⊥
CheckedOnSays opening old r noted Several new = λ before after reply. ⊥

abbrev pub CheckedOnFails : {S : Type 0} → Opening S → S → CheckedRunning → Option Notes → Contexts → S → Option (List ℕ) → Option (List ℕ) → Failure → Type 0
CheckedOnFails opening old r noted (Word hex) new before after failure = FailsWith old new hex.now (OneCheckedFails opening old r new) failure
CheckedOnFails opening old r noted (Bytes name) new before after failure = FailsBehind opening old name.now new (λ between. OneCheckedFails opening between r new) failure
CheckedOnFails opening old r noted (Lines name) new before after failure = CheckedEachFails opening old r noted name new before after failure
CheckedOnFails opening old r noted Nothing new before after failure = (failure ≡ NoContext) × (new ≡ old)
CheckedOnFails opening old r noted Several new before after failure = (failure ≡ ContextTwice) × (new ≡ old)

abbrev pub CheckedOnLeaves : {S : Type 0} → Opening S → S → CheckedRunning → Option Notes → Contexts → S → Option (List ℕ) → Option (List ℕ) → Type 0
CheckedOnLeaves opening old r noted (Word hex) new = Keeps
CheckedOnLeaves opening old r noted (Bytes name) new = Keeps
CheckedOnLeaves opening old r noted (Lines name) new = CheckedEachLeaves opening old r noted name new
CheckedOnLeaves opening old r noted Nothing new = Keeps
CheckedOnLeaves opening old r noted Several new = Keeps

-- ---- checked runs with notes that were read, or with none

-- what such a run answers on one context
abbrev pub NotedOneSays : {S : Type 0} → Opening S → S → NotedRunning → S → List ℕ → Answer → Type 0
NotedOneSays opening old n new = OneCheckedSays opening old n.asked (noted_in n.notes) new

-- of a program: why its certificate is refused, or what it answers on the contexts of the lines at a name
abbrev pub NotedLinesSay : {S : Type 0} → Opening S → S → NotedRunning → Bor (List ℕ) → S → Instructions → Option (List ℕ) → Option (List ℕ) → Reply → Type 0
NotedLinesSay opening old n name new p = JudgedEachSays opening old n.asked (noted_in n.notes) name new p

-- why that fails
abbrev pub NotedLinesFail : {S : Type 0} → Opening S → S → NotedRunning → Bor (List ℕ) → S → Instructions → Option (List ℕ) → Option (List ℕ) → Failure → Type 0
NotedLinesFail opening old n name new p = JudgedEachFails opening old n.asked (noted_in n.notes) name new p

-- what is printed where that fails
abbrev pub NotedLinesLeave : {S : Type 0} → Opening S → S → NotedRunning → Bor (List ℕ) → S → Instructions → Option (List ℕ) → Option (List ℕ) → Type 0
NotedLinesLeave opening old n name new p = JudgedEachLeaves opening old n.asked (noted_in n.notes) name new p

-- of the image that is asked for: why it is refused, or what its program answers on the contexts of the lines at a name
abbrev pub NotedEachSays : {S : Type 0} → Opening S → S → NotedRunning → Bor (List ℕ) → S → Option (List ℕ) → Option (List ℕ) → Reply → Type 0
NotedEachSays opening old n name new = CheckedEachSays opening old n.asked (noted_in n.notes) name new

-- why that fails
abbrev pub NotedEachFails : {S : Type 0} → Opening S → S → NotedRunning → Bor (List ℕ) → S → Option (List ℕ) → Option (List ℕ) → Failure → Type 0
NotedEachFails opening old n name new = CheckedEachFails opening old n.asked (noted_in n.notes) name new

-- what is printed where that fails
abbrev pub NotedEachLeaves : {S : Type 0} → Opening S → S → NotedRunning → Bor (List ℕ) → S → Option (List ℕ) → Option (List ℕ) → Type 0
NotedEachLeaves opening old n name new = CheckedEachLeaves opening old n.asked (noted_in n.notes) name new

-- what such a run answers on the contexts that are asked for
abbrev pub NotedGivenSays : {S : Type 0} → Opening S → S → NotedRunning → S → Option (List ℕ) → Option (List ℕ) → Reply → Type 0
NotedGivenSays opening old n new = CheckedOnSays opening old n.asked (noted_in n.notes) n.asked.contexts new

-- why it fails on them
abbrev pub NotedGivenFails : {S : Type 0} → Opening S → S → NotedRunning → S → Option (List ℕ) → Option (List ℕ) → Failure → Type 0
NotedGivenFails opening old n new before after = CheckedOnFails opening old n.asked (noted_in n.notes) n.asked.contexts new before after

-- what it has printed where it fails on them
abbrev pub NotedGivenLeaves : {S : Type 0} → Opening S → S → NotedRunning → S → Option (List ℕ) → Option (List ℕ) → Type 0
NotedGivenLeaves opening old n new = CheckedOnLeaves opening old n.asked (noted_in n.notes) n.asked.contexts new

-- ---- both beside notes

-- why the text of notes is refused
abbrev pub NotesUntaken : {S : Type 0} → Opening S → S → List ℕ → S → Answer → Type 0
NotesUntaken opening old name new (NoNotes e) = NotesRefused opening old name new e
NotesUntaken opening old name new answer = ⊥

-- Where notes are asked for, they are judged first: why their text is refused, or what is said beside them.
abbrev pub BesideNotes : {S : Type 0} → Opening S → S → Option (Bor (List ℕ)) → S → (S → Option Notes → Option (List ℕ) → Option (List ℕ) → Reply → Type 0) → Option (List ℕ) → Option (List ℕ) → Reply → Type 0
BesideNotes opening old None new says before after reply = says old None before after reply
BesideNotes {S} opening old (Some name) new says before after reply =
    Replies (NotesUntaken opening old name.now new) before after reply
    ⊎ ((between : S) × (runs : Bounds) × (notes : Notes) × LoadsNotes opening old name.now between runs notes × says between (Some notes) before after reply)

abbrev pub FailsBesideNotes : {S : Type 0} → Opening S → S → Option (Bor (List ℕ)) → S → (S → Option Notes → Failure → Type 0) → Failure → Type 0
FailsBesideNotes opening old None new fails failure = fails old None failure
FailsBesideNotes {S} opening old (Some name) new fails failure =
    NotesFail opening old name.now new failure
    ⊎ ((between : S) × (runs : Bounds) × (notes : Notes) × LoadsNotes opening old name.now between runs notes × fails between (Some notes) failure)

-- where that fails nothing was printed, or what the rest leaves
abbrev pub LeavesBesideNotes : {S : Type 0} → Opening S → S → Option (Bor (List ℕ)) → S → (S → Option Notes → Option (List ℕ) → Option (List ℕ) → Type 0) → Option (List ℕ) → Option (List ℕ) → Type 0
LeavesBesideNotes opening old None new leaves before after = leaves old None before after
LeavesBesideNotes {S} opening old (Some name) new leaves before after =
    Keeps before after
    ⊎ ((between : S) × (runs : Bounds) × (notes : Notes) × LoadsNotes opening old name.now between runs notes × leaves between (Some notes) before after)

-- what a run answers beside the notes at a name, or beside none
abbrev pub RunBesideSays : {S : Type 0} → Opening S → S → Running → Option (Bor (List ℕ)) → S → Option (List ℕ) → Option (List ℕ) → Reply → Type 0
RunBesideSays opening old r name new = BesideNotes opening old name new (λ between noted. RunGivenSays opening between r noted new)

-- why it fails beside them
abbrev pub RunBesideFails : {S : Type 0} → Opening S → S → Running → Option (Bor (List ℕ)) → S → Option (List ℕ) → Option (List ℕ) → Failure → Type 0
RunBesideFails opening old r name new before after = FailsBesideNotes opening old name new (λ between noted. RunGivenFails opening between r noted new before after)

-- what it has printed where it fails beside them
abbrev pub RunBesideLeaves : {S : Type 0} → Opening S → S → Running → Option (Bor (List ℕ)) → S → Option (List ℕ) → Option (List ℕ) → Type 0
RunBesideLeaves opening old r name new = LeavesBesideNotes opening old name new (λ between noted. RunGivenLeaves opening between r noted new)

-- what a checked run answers beside the notes at a name, or beside none
abbrev pub CheckedBesideSays : {S : Type 0} → Opening S → S → CheckedRunning → Option (Bor (List ℕ)) → S → Option (List ℕ) → Option (List ℕ) → Reply → Type 0
CheckedBesideSays opening old r name new = BesideNotes opening old name new (λ between noted. CheckedOnSays opening between r noted r.contexts new)

-- why it fails beside them
abbrev pub CheckedBesideFails : {S : Type 0} → Opening S → S → CheckedRunning → Option (Bor (List ℕ)) → S → Option (List ℕ) → Option (List ℕ) → Failure → Type 0
CheckedBesideFails opening old r name new before after = FailsBesideNotes opening old name new (λ between noted. CheckedOnFails opening between r noted r.contexts new before after)

-- what it has printed where it fails beside them
abbrev pub CheckedBesideLeaves : {S : Type 0} → Opening S → S → CheckedRunning → Option (Bor (List ℕ)) → S → Option (List ℕ) → Option (List ℕ) → Type 0
CheckedBesideLeaves opening old r name new = LeavesBesideNotes opening old name new (λ between noted. CheckedOnLeaves opening between r noted r.contexts new)

-- the notes are those that are asked for, if any are
abbrev pub RunSays : {S : Type 0} → Opening S → S → Running → S → Option (List ℕ) → Option (List ℕ) → Reply → Type 0
RunSays opening old r new = RunBesideSays opening old r r.notes new

abbrev pub RunFails : {S : Type 0} → Opening S → S → Running → S → Option (List ℕ) → Option (List ℕ) → Failure → Type 0
RunFails opening old r new before after = RunBesideFails opening old r r.notes new before after

abbrev pub RunLeaves : {S : Type 0} → Opening S → S → Running → S → Option (List ℕ) → Option (List ℕ) → Type 0
RunLeaves opening old r new = RunBesideLeaves opening old r r.notes new

abbrev pub CheckedSays : {S : Type 0} → Opening S → S → CheckedRunning → S → Option (List ℕ) → Option (List ℕ) → Reply → Type 0
CheckedSays opening old r new = CheckedBesideSays opening old r r.notes new

abbrev pub CheckedFails : {S : Type 0} → Opening S → S → CheckedRunning → S → Option (List ℕ) → Option (List ℕ) → Failure → Type 0
CheckedFails opening old r new before after = CheckedBesideFails opening old r r.notes new before after

abbrev pub CheckedLeaves : {S : Type 0} → Opening S → S → CheckedRunning → S → Option (List ℕ) → Option (List ℕ) → Type 0
CheckedLeaves opening old r new = CheckedBesideLeaves opening old r r.notes new
