-- What is certified, and what is put at the names of the answers.
use Rattle.std.specs.Prelude.{◌≡◌, ◌⊎◌, ◌≤◌, ℕ, List, [], false, Option, Some, None, IsTrue, IfSome, is_some, unwrap_or, ⊤, if◌then◌else◌}
use Rattle.std.specs.String.{string_bytes}
use Rattle.bpf_insn.specs.Instruction.{Instructions}
use Rattle.bpf_insn.specs.Image.{image}
use Rattle.bpf_insn.specs.Limits.{max_context}
use Rattle.bpf_cert.specs.View.{CertificateView}
use Rattle.bpf_cert.specs.Spelling.{certificate_text}
use Rattle.bpf_kept.specs.declared.bounds.Bounds.{Bounds}
use Rattle.bpf_kept.specs.declared.bounds.Turns.TheVariants.{Most}
use Rattle.bpf_kept.specs.Matching.{Notes, shown_turns}
use Rattle.bpf_kept.specs.Mismatches.{MatchesBeside}
use Rattle.bpf_kept.specs.Shown.{Keeps}
use Rattle.bpf_follows.specs.NotesText.{notes_text}
use Rattle.bpf_certify.specs.Certified.{IsPaid, IsRefused, told_turns}
use Rattle.bpf_certify.specs.declared.certified.Certified.{Certified}
use Rattle.bpf_certify.specs.declared.certified.Rewritten.{Rewritten}
use Rattle.bpf_certify.specs.declared.error.CertifyError.{CertifyError}
use Rattle.bpf_certify.specs.declared.error.CertifyError.TheVariants as errors
use Rattle.bpf_certify.specs.declared.wish.Wish.{Wish}
use Rattle.bpf_command.specs.CommandLine.{hardening_of}
use Rattle.bpf_command.specs.declared.request.certifying.Certifying.{Certifying}
use Rattle.bpf_answers.specs.Opened.{Opening}
use Rattle.bpf_answers.specs.declared.answer.Answer.{Answer}
use Rattle.bpf_answers.specs.declared.answer.Answer.TheVariants.{NoImage as ImageAnswer, NotHardened, NotShown, TooDear, Uncertified, Certified as IsCertified}
use Rattle.bpf_command.specs.declared.commands.texts.SideTexts.{SideTexts}
use Rattle.bpf_command.specs.declared.commands.certify.Assessed.{Assessed}
use Rattle.bpf_command.specs.declared.commands.certify.Assessment.{Assessment}
use Rattle.bpf_command.specs.declared.commands.certify.Assessment.TheVariants.{NoImage, Refused, Passed}
use Rattle.bpf_answers.specs.Both.{NotPutBoth, Pairing, Putting}
use Rattle.bpf_answers.specs.Both.Put.{Both}
use Rattle.bpf_answers.specs.Loaded.{ImageFails, ImageRefused, LoadsImage, OpensFirst, Tried}
use Rattle.bpf_answers.specs.declared.certified.Certification.{Certification}
use Rattle.bpf_answers.specs.declared.certified.Rewriting.{Rewriting}
use Rattle.bpf_answers.specs.declared.failure.Failure.{Failure}
use Rattle.bpf_answers.specs.declared.failure.Failure.TheVariants.{CannotRead, CannotWrite, NoMemory}
use Rattle.bpf_command.specs.Explained.{LinesAt, LinesFail}
use Rattle.bpf_command.specs.Texts.{NamedTexts, TextsFail, TextsStand, beside_texts, notes_and_changes}
use Rattle.bpf_command.specs.Names.{behind_lines}

-- ---- what is asked for

-- the bound that a host pays for unless another one is said, in instructions
abbrev pub usual_bound : ℕ
usual_bound = 1000000

-- the greatest bound that is asked for
abbrev pub most_of : Certifying → ℕ
most_of c = unwrap_or c.bound usual_bound

abbrev pub wish_of : Certifying → Wish
wish_of c = record { bound = most_of c; turns = c.turns; otherwise = c.otherwise; padded = c.padded; unproved = c.unproved; notes = is_some c.notes }

-- ---- what is certified

-- the runs that a line tells
abbrev pub runs_told : ℕ → Rewriting → Bounds
runs_told length r = record { length = length; padded = r.padded; turns = r.turns; untouched = r.untouched }

-- What is told of a hardened program, which has the byte order of the one at IN, for the turns that are asked for: without `--unproved` it is
-- shown. What is shown keeps the meaning of the program at IN, for the very contexts, turns and bytes left to r10 that are told: the notes match
-- beside the certificate. Where none of them has a counter, that is told of any number of turns.
pub record IsRewriting (program made : Instructions) (c : Certifying) (length : ℕ) (certificate : CertificateView) (notes : Notes) (r : Rewriting) : Type 0 where
  pub padded_is : r.padded ≡ c.padded
  pub turns_are : IfSome c.turns (λ asked. r.turns ≡ asked)
  pub told_are : r.told ≡ (if r.is_shown then shown_turns notes r.turns else Most r.turns)
  pub order_is : made.order ≡ program.order
  pub shown : c.unproved ≡ false → IsTrue r.is_shown
  pub matches : IsTrue r.is_shown → MatchesBeside program made notes certificate (runs_told length r)
  pub keeps : IsTrue r.is_shown → Keeps program made notes (runs_told length r)

-- the program is the one at IN, and contexts aren't blocks; or it was hardened
abbrev pub IsMadeOf : Instructions → Instructions → Certifying → ℕ → CertificateView → Notes → Option Rewriting → Type 0
IsMadeOf program made c length certificate notes None = (made ≡ program) × (c.padded ≡ false) × (notes ≡ [])
IsMadeOf program made c length certificate notes (Some r) = IsRewriting program made c length certificate notes r

-- The image is a program's. The certificate certifies the program that was made of it, for contexts of the length that is told, which is the one
-- that was asked for, with the bound that is told, which is at most the one that was asked for.
pub record Certifies {S : Type 0} (opening : Opening S) (old : S) (c : Certifying) (new : S) (made : Instructions) (certificate : CertificateView) (notes : Notes) (told : Certification) : Type 0 where
  pub program : Instructions
  pub loads : LoadsImage opening c.order old c.input.now new program
  pub length_is : c.length ≤ max_context → told.length ≡ c.length
  pub paid : IsPaid made certificate told.length (most_of c) told.bound
  pub is_made : IsMadeOf program made c told.length certificate notes told.rewriting

-- the program for which the certificate is
abbrev pub program_of : Instructions → Option Rewritten → Instructions
program_of program None = program
program_of program (Some r) = r.hardened.program

abbrev pub made_of : Instructions → Certified → Instructions
made_of program d = program_of program d.rewritten

-- the notes by which it is shown; none of a program that stands as it is
abbrev pub notes_of : Option Rewritten → Notes
notes_of None = []
notes_of (Some r) = r.notes.items

-- what is told of it
abbrev pub retold : Certifying → Rewritten → Rewriting
retold c r = record { turns = r.turns; told = told_turns r; padded = c.padded; untouched = r.untouched; is_shown = r.is_shown }

abbrev pub rewriting_of : Certifying → Option Rewritten → Option Rewriting
rewriting_of c None = None
rewriting_of c (Some r) = Some (retold c r)

abbrev pub told_of : Certifying → ℕ → Certified → Certification
told_of c length d = record { length = length; bound = d.bound; rewriting = rewriting_of c d.rewritten }

-- ---- what stands at OUT, CERT and the names of the texts

-- the text of the notes, for the runs that are told; empty for a program that stands as it is
abbrev pub noted_for : ℕ → Option Rewriting → Notes → List ℕ
noted_for length None notes = []
noted_for length (Some r) notes = notes_text (runs_told length r) notes

abbrev pub noted_text : Certification → Notes → List ℕ
noted_text told notes = noted_for told.length told.rewriting notes

-- the text of the notes of what was certified, for contexts of this length
abbrev pub notes_told : Certifying → ℕ → Certified → List ℕ
notes_told c length d = noted_text (told_of c length d) (notes_of d.rewritten)

-- OUT holds the image and CERT the certificate's text, and then the texts stand at their names
abbrev pub AllPut : {S : Type 0} → Putting S → S → Certifying → Instructions → CertificateView → NamedTexts → S → Type 0
AllPut {S} w old c made certificate texts new =
    (between : S) × w.pairs old c.output.now (image made.order made.list) c.certificate.now (certificate_text certificate) Both between
    × TextsStand w.makes between texts new

-- so with this status
abbrev pub IsAllPut : {S : Type 0} → Putting S → S → Certifying → Instructions → CertificateView → NamedTexts → S → ℕ → Type 0
IsAllPut w old c made certificate texts new status = (status ≡ 0) × AllPut w old c made certificate texts new

-- OUT and CERT aren't both put: neither stands; or CERT couldn't be finished when OUT stood already
abbrev pub NoPair : {S : Type 0} → Pairing S → S → Certifying → Instructions → CertificateView → S → Failure → Type 0
NoPair b old c made certificate new = NotPutBoth b old c.output (image made.order made.list) c.certificate (certificate_text certificate) new

-- so it is; or both stand, and one of the texts can't be put at its name
abbrev pub NotAllPut : {S : Type 0} → Putting S → S → Certifying → Instructions → CertificateView → NamedTexts → S → Failure → Type 0
NotAllPut {S} w old c made certificate texts new failure =
    NoPair w.pairs old c made certificate new failure
    ⊎ ((between : S) × w.pairs old c.output.now (image made.order made.list) c.certificate.now (certificate_text certificate) Both between
    × TextsFail w.makes between texts new failure)

-- image, certificate and the texts beside them stand at their names, and the status is 0
abbrev pub IsPutBeside : {S : Type 0} → Putting S → S → Certifying → Instructions → CertificateView → SideTexts → S → ℕ → Type 0
IsPutBeside w old c made certificate beside new = IsAllPut w old c made certificate (beside_texts (hardening_of c) beside) new

-- not all of them stand there, for this reason
abbrev pub NotPutBeside : {S : Type 0} → Putting S → S → Certifying → Instructions → CertificateView → SideTexts → S → Failure → Type 0
NotPutBeside w old c made certificate beside new = NotAllPut w old c made certificate (beside_texts (hardening_of c) beside) new

-- ---- the answers

-- what is answered where a program isn't certified
abbrev pub refused_as : CertifyError → Answer
refused_as (errors.Unhardened e) = NotHardened e
refused_as (errors.Unshown m) = NotShown m
refused_as (errors.TooDear turns bound) = TooDear
refused_as (errors.Uncertified r) = Uncertified

-- what is answered of a certification
abbrev pub assessment_answer : Assessment → Answer
assessment_answer (NoImage e) = ImageAnswer e
assessment_answer (Refused e) = refused_as e
assessment_answer (Passed told) = IsCertified told

-- The image is a program's, for which what is asked for is refused so. Nothing is written.
abbrev pub IsRefusedBy : {S : Type 0} → Opening S → S → Certifying → S → CertifyError → Type 0
IsRefusedBy opening old c new error =
    (p : Instructions) × (length : ℕ) × LoadsImage opening c.order old c.input.now new p
    × (c.length ≤ max_context → length ≡ c.length) × IsRefused p length (wish_of c) error

-- something was certified, of which this holds, and of the texts that go beside it
abbrev pub Behind : {S : Type 0} → Opening S → S → Certifying → (S → Instructions → CertificateView → NamedTexts → Certification → Type 0) → Type 0
Behind {S} o old c holds =
    (between : S) × (made : Instructions) × (certificate : CertificateView) × (notes : Notes) × (told : Certification) × (changes : List ℕ)
    × Certifies o old c between made certificate notes told × holds between made certificate (notes_and_changes (hardening_of c) (noted_text told notes) changes) told

-- what was certified is put at its names, and this is told of it
abbrev pub Stands : {S : Type 0} → Opening S → Putting S → S → Certifying → S → Certification → Type 0
Stands o w old c new told = Behind o old c (λ between made certificate texts also. (told ≡ also) × AllPut w between c made certificate texts new)

-- it isn't
abbrev pub StandsNot : {S : Type 0} → Opening S → Putting S → S → Certifying → S → Failure → Type 0
StandsNot o w old c new failure = Behind o old c (λ between made certificate texts told. NotAllPut w between c made certificate texts new failure)

-- OUT, CERT and the texts stand at their names; or none of them is opened
abbrev pub CertifySays : {S : Type 0} → Opening S → Putting S → S → Certifying → S → Assessment → Type 0
CertifySays o w old c new (NoImage e) = ImageRefused o c.order old c.input.now new e
CertifySays o w old c new (Refused e) = IsRefusedBy o old c new e
CertifySays o w old c new (Passed told) = Stands o w old c new told

abbrev pub CertifyFails : {S : Type 0} → Opening S → Putting S → S → Certifying → S → Failure → Type 0
CertifyFails o w old c new (CannotRead name) = ImageFails o old c.input.now new (CannotRead name)
CertifyFails o w old c new (CannotWrite name) = StandsNot o w old c new (CannotWrite name)
CertifyFails o w old c new NoMemory = ⊤
CertifyFails o w old c new failure = ⊥

-- Where that fails, the input was opened, or couldn't be; or not all came to stand at their names.
abbrev pub NotCertified : {S : Type 0} → Opening S → Putting S → S → Certifying → S → Type 0
NotCertified o w old c new = Tried o old c.input.now new ⊎ ((failure : Failure) × StandsNot o w old c new failure)

-- ---- with the lines of the source at a name, which is opened first

abbrev pub CertifyWithSays : {S : Type 0} → Opening S → Putting S → S → Certifying → S → Assessed → Type 0
CertifyWithSays {S} o w old c new a = (between : S) × LinesAt o old c.lines between (string_bytes a.lines) × CertifySays o w between c new a.assessment

abbrev pub CertifyWithFails : {S : Type 0} → Opening S → Putting S → S → Certifying → S → Failure → Type 0
CertifyWithFails {S} o w old c new failure =
    LinesFail o old c.lines new failure ⊎ ((between : S) × (table : List ℕ) × LinesAt o old c.lines between table × CertifyFails o w between c new failure)

abbrev pub NotCertifiedWith : {S : Type 0} → Opening S → Putting S → S → Certifying → S → Type 0
NotCertifiedWith {S} o w old c new =
    OpensFirst o (behind_lines c.lines []) old new ⊎ ((between : S) × (table : List ℕ) × LinesAt o old c.lines between table × NotCertified o w between c new)
