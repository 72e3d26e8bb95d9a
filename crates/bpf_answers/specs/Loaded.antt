-- What stands at names: the image of a program, a text, a certificate, a context.
use Rattle.std.specs.Prelude.{◌≡◌, ◌⊎◌, ◌<◌, ◌≤◌, length, ℕ, Bool, true, false, List, [], ◌∷◌, Option, Some, None, IfSome, Result, MatchResult, ⊤}
use Rattle.std.specs.Global.{Vec}
use Rattle.bpf_insn.specs.Instruction.{Instructions}
use Rattle.bpf_insn.specs.Laws.{IsImageOfProgram}
use Rattle.bpf_insn.specs.Refusal.{IsRefused}
use Rattle.bpf_insn.specs.declared.order.Order.{Order}
use Rattle.bpf_insn.specs.declared.refusal.DecodeError.{DecodeError}
use Rattle.bpf_insn.specs.declared.refusal.DecodeError.TheVariants.{Memory}
use Rattle.bpf_cert.specs.View.{CertificateView}
use Rattle.bpf_cert.specs.Certificates.{Spells}
use Rattle.bpf_cert.specs.ReadAnswers.{IsFaultOf}
use Rattle.bpf_cert.specs.declared.error.CertError.{CertError}
use Rattle.bpf_cert.specs.declared.error.CertError.TheVariants as errors
use Rattle.std.specs.Str.{IsUtf8}
use Rattle.bpf_answers.specs.Opened.{Opening, ReadsAt, Unreadable}
use Rattle.bpf_insn.specs.Limits.{max_context}
use Rattle.bpf_answers.specs.Told.{OutputFails}
use Rattle.bpf_answers.specs.declared.context.ContextError.TheVariants.{TooLong}
use Rattle.bpf_answers.specs.declared.bytes.BytesError.{BytesError}
use Rattle.bpf_answers.specs.declared.bytes.BytesError.TheVariants.{Unreadable as Unread, TooLong as TooMany, Memory as NoSpace}
use Rattle.bpf_answers.specs.declared.failure.Failure.{Failure}
use Rattle.bpf_answers.specs.declared.failure.Failure.TheVariants.{CannotRead, BadContext, NotText}

-- the name was opened, or couldn't be
abbrev pub Tried : {S : Type 0} → Opening S → S → List ℕ → S → Type 0
Tried opening old name new = (known : Option (Option (List ℕ))) × opening old name known new

-- Of these names the first were opened, or couldn't be, in this order; the others weren't touched.
abbrev pub OpensFirst : {S : Type 0} → Opening S → List (List ℕ) → S → S → Type 0
OpensFirst opening [] old new = new ≡ old
OpensFirst {S} opening (name ∷ names) old new = (new ≡ old) ⊎ ((between : S) × Tried opening old name between × OpensFirst opening names between new)

-- ---- images

-- the name is opened, and there is no memory for its bytes
abbrev pub NoSpaceFor : {S : Type 0} → Opening S → S → List ℕ → S → DecodeError → Type 0
NoSpaceFor opening old name new e = ((known : Option (List ℕ)) × opening old name (Some known) new) × (e ≡ Memory)

-- The image at the name is refused: for want of memory, or for its bytes.
abbrev pub ImageRefused : {S : Type 0} → Opening S → Order → S → List ℕ → S → DecodeError → Type 0
ImageRefused {S} opening order old name new e =
    NoSpaceFor opening old name new e ⊎ ((bytes : List ℕ) × ReadsAt opening old name bytes new × IsRefused order bytes e)

-- The bytes at the name are the image of this program.
pub record LoadsImage {S : Type 0} (opening : Opening S) (order : Order) (old : S) (name : List ℕ) (new : S) (p : Instructions) : Type 0 where
  pub bytes : List ℕ
  pub read : ReadsAt opening old name bytes new
  pub is_image : IsImageOfProgram order bytes p.list
  pub order_is : p.order ≡ order

-- the bytes that were read at the name, or that there is no memory for them
abbrev pub ReadsImageAt : {S : Type 0} → Opening S → S → List ℕ → S → Result (Vec ℕ) DecodeError → Type 0
ReadsImageAt opening old name new read = MatchResult read (λ v. ReadsAt opening old name v.items new) (NoSpaceFor opening old name new)

-- the program that was read at the name, or why its image is refused
abbrev pub ReadsProgramAt : {S : Type 0} → Opening S → Order → S → List ℕ → S → Result Instructions DecodeError → Type 0
ReadsProgramAt opening order old name new read = MatchResult read (LoadsImage opening order old name new) (ImageRefused opening order old name new)

-- the image can't be read, or standard output fails
abbrev pub ImageFails : {S : Type 0} → Opening S → S → List ℕ → S → Failure → Type 0
ImageFails opening old input new (CannotRead name) = (name.now ≡ input) × Unreadable opening old input new
ImageFails opening old input new failure = OutputFails failure

-- ---- bytes

-- what the name is opened to, with what is said of its text, where that is known
abbrev pub TextAt : {S : Type 0} → Opening S → S → List ℕ → S → (List ℕ → Type 0) → Type 0
TextAt opening old name new says = (text : Option (List ℕ)) × opening old name (Some text) new × IfSome text says

-- these are all bytes at the name, and no more than so many
abbrev pub BytesAt : {S : Type 0} → ℕ → Opening S → S → List ℕ → S → List ℕ → Type 0
BytesAt most opening old name new bytes = TextAt opening old name new (λ text. bytes ≡ text) × (length bytes ≤ most)

-- the name can't be opened, or its reader fails; or there are more
abbrev pub AreUnread : {S : Type 0} → ℕ → Opening S → S → List ℕ → S → BytesError → Type 0
AreUnread most opening old name new Unread = Unreadable opening old name new
AreUnread most opening old name new TooMany = TextAt opening old name new (λ text. most < length text)
AreUnread most opening old name new NoSpace = ⊤

-- the greatest length of a text that is read, in bytes
abbrev pub max_text : ℕ
max_text = 16777216

-- the same of a text that is no longer than that
abbrev pub ShortTextAt : {S : Type 0} → Opening S → S → List ℕ → S → (List ℕ → Type 0) → Type 0
ShortTextAt opening old name new says = TextAt opening old name new (λ text. (length text ≤ max_text) × says text)

-- the name can't be opened, its reader fails, or its text isn't UTF-8 or is longer
abbrev pub TextFails : {S : Type 0} → Opening S → S → List ℕ → S → Failure → Type 0
TextFails opening old input new (CannotRead name) = (name.now ≡ input) × (Unreadable opening old input new ⊎ TextAt opening old input new (λ text. (¬ (IsUtf8 text)) ⊎ (max_text < length text)))
TextFails opening old input new failure = OutputFails failure

-- the same, or this failure where the text isn't UTF-8
abbrev pub TextFailsOr : {S : Type 0} → Opening S → S → List ℕ → S → (other failure : Failure) → Type 0
TextFailsOr opening old input new other failure = TextFails opening old input new failure ⊎ ((failure ≡ other) × TextAt opening old input new (λ text. ¬ (IsUtf8 text)))

-- the same where people are told of a text that isn't UTF-8
abbrev pub ReadableFails : {S : Type 0} → Opening S → S → List ℕ → S → Failure → Type 0
ReadableFails opening old input new (NotText name) = (name.now ≡ input) × TextAt opening old input new (λ text. ¬ (IsUtf8 text))
ReadableFails opening old input new failure = TextFails opening old input new failure

-- ---- certificates

-- A failure of the reader is told on standard error, and is no answer.
abbrev pub reader_failed : CertError → Bool
reader_failed (errors.Syntax n) = false
reader_failed (errors.NotCanonical n) = false
reader_failed (errors.Limit n) = false
reader_failed errors.Memory = false
reader_failed (errors.Read n) = true

-- the text at the name spells the certificate
abbrev pub CertificateAt : {S : Type 0} → Opening S → S → List ℕ → S → CertificateView → Type 0
CertificateAt opening old name new c = TextAt opening old name new (λ text. Spells text c)

abbrev pub CertificateRefused : {S : Type 0} → Opening S → S → List ℕ → S → CertError → Type 0
CertificateRefused opening old name new e = (reader_failed e ≡ false) × TextAt opening old name new (λ text. IsFaultOf text e)

-- the certificate that was read at the name, or why its text is refused
abbrev pub ReadsCertificateAt : {S : Type 0} → Opening S → S → List ℕ → S → Result CertificateView CertError → Type 0
ReadsCertificateAt opening old name new read = MatchResult read (CertificateAt opening old name new) (CertificateRefused opening old name new)

-- the name can't be opened, or its reader fails
abbrev pub CertificateUnread : {S : Type 0} → Opening S → S → List ℕ → S → Type 0
CertificateUnread opening old name new = opening old name None new ⊎ ((n : ℕ) × TextAt opening old name new (λ text. IsFaultOf text (errors.Read n)))

abbrev pub CertificateFails : {S : Type 0} → Opening S → S → List ℕ → S → Failure → Type 0
CertificateFails opening old certificate new (CannotRead name) = (name.now ≡ certificate) × CertificateUnread opening old certificate new
CertificateFails opening old certificate new failure = OutputFails failure

-- ---- contexts

-- the bytes at the name are the context
abbrev pub ContextAt : {S : Type 0} → Opening S → S → List ℕ → S → List ℕ → Type 0
ContextAt opening old name new context = BytesAt max_context opening old name new context

-- there are too many bytes, or the name can't be read
abbrev pub ContextFails : {S : Type 0} → Opening S → S → List ℕ → S → Failure → Type 0
ContextFails opening old input new (BadContext error) = (error ≡ TooLong) × TextAt opening old input new (λ text. max_context < length text)
ContextFails opening old input new (CannotRead name) = (name.now ≡ input) × Unreadable opening old input new
ContextFails opening old input new failure = OutputFails failure
