-- Which answers the commands give, by what the names hold.
use Rattle.std.specs.Prelude.{◌≡◌, ◌⊎◌, ℕ, Bool, true, false, ⊤, List, length, Option, Some, None, Ok, Err, if◌then◌else◌}
use Rattle.bpf_insn.specs.Instruction.{Instructions, groups_in}
use Rattle.bpf_insn.specs.Image.{image}
use Rattle.bpf_insn.specs.declared.order.Order.{Order}
use Rattle.bpf_text.specs.Assembly.{Assembles, IsRefused}
use Rattle.bpf_text.specs.declared.annotated.Notes.{Notes}
use Rattle.bpf_text.specs.declared.annotated.Notes.TheVariants.{Slots, Bytes, Both}
use Rattle.bpf_text.specs.declared.error.TextError.TheVariants.{Memory as NoRoom}
use Rattle.bpf_kept.specs.Matching.{Notes as RunNotes}
use Rattle.bpf_machine.specs.Answers.{IsRun}
use Rattle.bpf_machine.specs.declared.outcome.Outcome.TheVariants.{Done}
use Rattle.bpf_safety.specs.Describes.{LengthWithin}
use Rattle.bpf_cert.specs.View.{CertificateView}
use Rattle.bpf_cert.specs.Spelling.{certificate_text}
use Rattle.bpf_cert.specs.declared.error.CertError.TheVariants.{Memory as NoCopy}
use Rattle.bpf_safety.specs.Certified.{IsLeastFlaw}
use Rattle.bpf_check.specs.CheckedProgram.{CheckedProgram, IsCertifiedBy, checked, work_of}
use Rattle.bpf_check.specs.RefusalNumbers.{refusal_slot, refusal_number}
use Rattle.bpf_flat.specs.Runs.{RunsTo}
use Rattle.bpf_check.specs.Verdicts.{Verified}
use Rattle.bpf_answers.specs.Context.{context_in}
use Rattle.bpf_answers.specs.declared.context.ContextError.{ContextError}
use Rattle.bpf_answers.specs.declared.context.ContextError.TheVariants.{Memory as NoSpace}
use Rattle.bpf_command.specs.declared.request.asking.Assembling.{Assembling}
use Rattle.bpf_answers.specs.Opened.{Opening}
use Rattle.bpf_answers.specs.Loaded.{ImageRefused, LoadsImage, ImageFails, ShortTextAt, TextFails, CertificateAt, CertificateRefused, CertificateUnread, CertificateFails, Tried}
use Rattle.bpf_answers.specs.Made.{Making}
use Rattle.bpf_answers.specs.declared.answer.Answer.{Answer}
use Rattle.bpf_answers.specs.declared.answer.Answer.TheVariants.{Yes, NoImage, NoText, NoCertificate, NotCertified, NoContext, Ends, EndsAtTrap, Ran, RanToTrap, Occur, Lists, Annotates, Written}
use Rattle.bpf_answers.specs.Told.{OutputFails}
use Rattle.bpf_answers.specs.declared.failure.Failure.{Failure}
use Rattle.bpf_answers.specs.declared.failure.Failure.TheVariants.{CannotRead, CannotWrite, NoMemory, BadContext}
use Rattle.bpf_command.specs.Noted.{EndsAsNoted, IsUntrapped, noted_in}
use Rattle.bpf_command.specs.declared.commands.judged.WantedOfChecked.{WantedOfChecked}
use Rattle.bpf_command.specs.declared.commands.judged.WantedOfChecked.TheVariants.{Promise, Run}

-- ---- contexts

-- the word spells a context
abbrev pub IsContext : List ℕ → Type 0
IsContext hex = (context : List ℕ) × (context_in hex ≡ Ok context)

-- the word is refused: for want of memory, or for its letters
abbrev pub ContextRefused : List ℕ → ContextError → Type 0
ContextRefused hex e = (e ≡ NoSpace) ⊎ (context_in hex ≡ Err e)

-- what fails of a command with a context: its word is judged before a name is opened
abbrev pub FailsWith : {S : Type 0} → S → S → List ℕ → (Failure → Type 0) → Failure → Type 0
FailsWith old new hex fails (BadContext e) = (new ≡ old) × ContextRefused hex e
FailsWith old new hex fails (CannotRead name) = IsContext hex × fails (CannotRead name)
FailsWith old new hex fails failure = fails failure

-- ---- commands that take an image alone

-- why the image is refused, or what is said of its program
abbrev pub ImageSays : {S : Type 0} → Opening S → Order → S → List ℕ → S → (Instructions → Answer → Type 0) → Answer → Type 0
ImageSays opening order old input new says (NoImage e) = ImageRefused opening order old input new e
ImageSays opening order old input new says answer = (p : Instructions) × LoadsImage opening order old input new p × says p answer

abbrev pub GroupsSay : Instructions → Answer → Type 0
GroupsSay p (Occur groups) = groups ≡ groups_in p.list
GroupsSay p answer = ⊥

-- the comments that are asked for
abbrev pub notes_of : (slots bytes : Bool) → Option Notes
notes_of true true = Some Both
notes_of true false = Some Slots
notes_of false true = Some Bytes
notes_of false false = None

-- the program is listed with these comments, or with none
abbrev pub ListSays : Option Notes → Instructions → Answer → Type 0
ListSays asked p (Lists q) = (asked ≡ None) × (q ≡ p)
ListSays asked p (Annotates a) = (asked ≡ Some a.notes) × (a.program ≡ p)
ListSays asked p answer = ⊥

-- how a run ends, and exactly where it ends at a trap of the notes, that it does
abbrev pub OutcomeSays : Option RunNotes → List ℕ → ℕ → Instructions → Answer → Type 0
OutcomeSays noted context fuel p (Ran outcome) = IsRun p context fuel outcome × IsUntrapped noted p context outcome
OutcomeSays noted context fuel p (RanToTrap v k) = IsRun p context fuel (Done v k) × EndsAsNoted noted p context v true
OutcomeSays noted context fuel p answer = ⊥

-- ---- commands that take an image and a certificate

-- Of a program and the certificate at a name: why the text is refused, why the one doesn't certify the other, or what is said of
-- both.
abbrev pub JudgedSays : {S : Type 0} → Opening S → S → List ℕ → S → Instructions → (CheckedProgram → Answer → Type 0) → Answer → Type 0
JudgedSays opening old certificate new p says (NoCertificate e) = CertificateRefused opening old certificate new e
JudgedSays opening old certificate new p says (NotCertified r) =
    (c : CertificateView) × CertificateAt opening old certificate new c × IsLeastFlaw p c (refusal_slot r) (refusal_number r)
JudgedSays opening old certificate new p says answer =
    (c : CertificateView) × CertificateAt opening old certificate new c × IsCertifiedBy p c × says (checked p c) answer

-- the image is judged before the certificate's name is opened
abbrev pub LoadedSays : {S : Type 0} → Opening S → Order → S → List ℕ → List ℕ → S → (List ℕ → CheckedProgram → Answer → Type 0) → Answer → Type 0
LoadedSays opening order old input certificate new says (NoImage e) = ImageRefused opening order old input new e
LoadedSays {S} opening order old input certificate new says answer =
    (between : S) × (p : Instructions) × (image : LoadsImage opening order old input between p) × JudgedSays opening between certificate new p (says image.bytes) answer

abbrev pub LoadedFails : {S : Type 0} → Opening S → Order → S → List ℕ → List ℕ → S → Failure → Type 0
LoadedFails {S} opening order old input certificate new (CannotRead name) =
    ImageFails opening old input new (CannotRead name)
    ⊎ ((name.now ≡ certificate) × ((between : S) × (p : Instructions) × LoadsImage opening order old input between p × CertificateUnread opening between certificate new))
LoadedFails opening order old input certificate new failure = OutputFails failure

-- what is printed of a yes: the range and the bound, and where it is asked for the work
abbrev pub YesSays : Bool → CheckedProgram → Answer → Type 0
YesSays counted k (Yes least most bound work) =
    (least ≡ k.certificate.least) × (most ≡ k.certificate.most) × (bound ≡ k.certificate.steps) × (work ≡ (if counted then Some (work_of k.program k.certificate) else None))
YesSays counted k answer = ⊥

-- what a checked program answers on a context, and exactly where it ends at a trap of the notes, that it does
abbrev pub ResultSays : Option RunNotes → List ℕ → CheckedProgram → Answer → Type 0
ResultSays noted context k (Ends value) = RunsTo k.program k.certificate.steps context value × EndsAsNoted noted k.program context value false
ResultSays noted context k (EndsAtTrap value) = RunsTo k.program k.certificate.steps context value × EndsAsNoted noted k.program context value true
ResultSays noted context k (NoContext count least most) =
    (count ≡ length context) × (least ≡ k.certificate.least) × (most ≡ k.certificate.most) × (LengthWithin least most context → ⊥)
ResultSays noted context k answer = ⊥

abbrev pub WishSays : WantedOfChecked → CheckedProgram → Answer → Type 0
WishSays (Promise counted) k answer = YesSays counted k answer
WishSays (Run context notes) k answer = ResultSays (noted_in notes) context.now k answer

-- what a yes promises of the image
abbrev pub IsPromised : Order → List ℕ → Answer → Type 0
IsPromised order bytes (Yes least most bound work) = Verified order bytes least most bound
IsPromised order bytes answer = ⊤

abbrev pub CheckSays : {S : Type 0} → Opening S → Order → S → List ℕ → List ℕ → S → Bool → Answer → Type 0
CheckSays opening order old input certificate new counted answer =
    LoadedSays opening order old input certificate new (λ bytes k x. YesSays counted k x × IsPromised order bytes x) answer

abbrev pub RunCheckedSays : {S : Type 0} → Opening S → Order → S → List ℕ → List ℕ → Option RunNotes → S → List ℕ → Answer → Type 0
RunCheckedSays opening order old input certificate noted new context answer = LoadedSays opening order old input certificate new (λ bytes. ResultSays noted context) answer

-- ---- commands that write

-- the text at the name says the program, which is taken in this order
pub record LoadsText {S : Type 0} (opening : Opening S) (order : Order) (old : S) (name : List ℕ) (new : S) (p : Instructions) : Type 0 where
  pub assembles : ShortTextAt opening old name new (λ text. Assembles text p.list)
  pub order_is : p.order ≡ order

-- OUT holds the program's image, or isn't opened
abbrev pub AsmSays : {S : Type 0} → Opening S → Making S → S → Assembling → S → Answer → Type 0
AsmSays opening making old a new (NoText e) = ShortTextAt opening old a.input.now new (λ text. (e ≡ NoRoom) ⊎ IsRefused text e)
AsmSays {S} opening making old a new Written =
    (between : S) × (p : Instructions) × LoadsText opening a.order old a.input.now between p × making between a.output.now (image p.order p.list) true new
AsmSays opening making old a new answer = ⊥

-- nothing came to stand at OUT
abbrev pub AsmUnput : {S : Type 0} → Opening S → Making S → S → Assembling → S → Type 0
AsmUnput {S} opening making old a new =
    (between : S) × (p : Instructions) × LoadsText opening a.order old a.input.now between p × making between a.output.now (image p.order p.list) false new

abbrev pub AsmFails : {S : Type 0} → Opening S → Making S → S → Assembling → S → Failure → Type 0
AsmFails opening making old a new (CannotRead name) = TextFails opening old a.input.now new (CannotRead name)
AsmFails opening making old a new (CannotWrite name) = (name.now ≡ a.output.now) × AsmUnput opening making old a new
AsmFails opening making old a new NoMemory = ⊤
AsmFails opening making old a new failure = ⊥

-- where that fails, the input was opened, or couldn't be, and nothing came to stand at OUT
abbrev pub NotAssembled : {S : Type 0} → Opening S → Making S → S → Assembling → S → Type 0
NotAssembled opening making old a new = Tried opening old a.input.now new ⊎ AsmUnput opening making old a new

-- the same certificate as version 2
abbrev pub migrated : CertificateView → CertificateView
migrated c = record c { version = 2 }

-- OUT holds the text of the certificate as version 2, or isn't opened
abbrev pub MigrateSays : {S : Type 0} → Opening S → Making S → S → List ℕ → List ℕ → S → Answer → Type 0
MigrateSays opening making old certificate output new (NoCertificate e) =
    CertificateRefused opening old certificate new e ⊎ ((e ≡ NoCopy) × ((c : CertificateView) × CertificateAt opening old certificate new c))
MigrateSays {S} opening making old certificate output new Written =
    (between : S) × (c : CertificateView) × CertificateAt opening old certificate between c × making between output (certificate_text (migrated c)) true new
MigrateSays opening making old certificate output new answer = ⊥

abbrev pub MigrateFails : {S : Type 0} → Opening S → Making S → S → List ℕ → List ℕ → S → Failure → Type 0
MigrateFails opening making old certificate output new (CannotRead name) = CertificateFails opening old certificate new (CannotRead name)
MigrateFails {S} opening making old certificate output new (CannotWrite name) =
    (name.now ≡ output) × ((between : S) × (c : CertificateView) × CertificateAt opening old certificate between c × making between output (certificate_text (migrated c)) false new)
MigrateFails opening making old certificate output new NoMemory = ⊤
MigrateFails opening making old certificate output new failure = ⊥

-- where that fails, the certificate was opened, or couldn't be, and nothing came to stand at OUT
abbrev pub NotMigrated : {S : Type 0} → Opening S → Making S → S → List ℕ → List ℕ → S → Type 0
NotMigrated {S} opening making old certificate output new =
    Tried opening old certificate new
    ⊎ ((between : S) × (c : CertificateView) × CertificateAt opening old certificate between c × making between output (certificate_text (migrated c)) false new)
