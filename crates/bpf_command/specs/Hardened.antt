-- What is hardened, and what is put at the names of the answer.
use Rattle.std.specs.Prelude.{◌≡◌, ◌⊎◌, ◌<◌, ◌&&◌, ◌++◌, ℕ, List, [], Bool, true, false, Option, Some, None, IfSome, IfNone, IsSome, is_none, unwrap_or, ⊤}
use Rattle.std.specs.String.{string_bytes}
use Rattle.bpf_insn.specs.Instruction.{Instructions, slots}
use Rattle.bpf_insn.specs.Image.{IsProgram, image}
use Rattle.bpf_cert.specs.View.{CertificateView}
use Rattle.bpf_cert.specs.Spelling.{certificate_text}
use Rattle.bpf_kept.specs.declared.bounds.Bounds.{Bounds}
use Rattle.bpf_kept.specs.Matching.{Notes, shown_turns}
use Rattle.bpf_kept.specs.Shown.{Keeps}
use Rattle.bpf_kept.specs.declared.mismatch.Mismatch.{Mismatch}
use Rattle.bpf_kept.specs.declared.mismatch.Mismatch.TheVariants.{Order, Start, At, TooMany, Length, NoExit}
use Rattle.bpf_follows.specs.NotesText.{notes_text}
use Rattle.bpf_certify.specs.Evidence.{Fails, IsEvidence}
use Rattle.bpf_certify.specs.declared.evidence.Evidence.{Evidence}
use Rattle.bpf_infer_base.specs.declared.hardened.Hardened.{Hardened as HardenedProgram}
use Rattle.bpf_infer_base.specs.HardenNumbers.{harden_slot}
use Rattle.bpf_command.specs.declared.request.hardening.Hardening.{Hardening}
use Rattle.bpf_answers.specs.Opened.{Opening}
use Rattle.bpf_answers.specs.Loaded.{ImageFails, ImageRefused, LoadsImage, Tried}
use Rattle.bpf_answers.specs.Made.{Making}
use Rattle.bpf_answers.specs.declared.answer.Answer.{Answer}
use Rattle.bpf_answers.specs.declared.answer.Answer.TheVariants.{NoImage as ImageAnswer, NotHardened as HardenAnswer, NotShown as ShowAnswer, Written, WrittenFor}
use Rattle.bpf_command.specs.declared.commands.harden.Attempt.{Attempt}
use Rattle.bpf_command.specs.declared.commands.harden.Attempt.TheVariants.{NoImage, NotHardened, NotShown, Hardened}
use Rattle.bpf_command.specs.declared.commands.harden.KeptMeaning.{KeptMeaning}
use Rattle.bpf_command.specs.declared.commands.harden.UnshownMeaning.{UnshownMeaning}
use Rattle.bpf_command.specs.declared.commands.texts.SideTexts.{SideTexts}
use Rattle.bpf_command.specs.declared.commands.harden.UnshownMeaning.TheVariants.{Memory as NoSpace, Differs}
use Rattle.bpf_answers.specs.declared.failure.Failure.{Failure}
use Rattle.bpf_answers.specs.declared.failure.Failure.TheVariants.{CannotRead, CannotWrite, NoMemory}
use Rattle.bpf_command.specs.Texts.{NamedTexts, TextsFail, TextsStand, named, notes_and_changes}

-- ---- the texts behind OUT

-- the certificate's text, where hardening found one
abbrev pub found_text : Option CertificateView → List ℕ
found_text None = []
found_text (Some c) = certificate_text c

-- that of the certificate, that of its notes, and then that of the changes
abbrev pub texts_of : Hardening → Option CertificateView → (notes changes : List ℕ) → NamedTexts
texts_of h found notes changes = named h.certificate (found_text found) ++ notes_and_changes h notes changes

-- the certificate's text, and then the texts that go beside an image
abbrev pub texts_behind : Hardening → Option CertificateView → SideTexts → NamedTexts
texts_behind h found beside = texts_of h found beside.notes.items (string_bytes beside.changes)

-- ---- what is shown

-- the contexts and the turns for which it is hardened, and how many of the lowest bytes of each frame the old program leaves to r10
abbrev pub bounds_of : Hardening → ℕ → Bounds
bounds_of h untouched = record { length = h.length; padded = h.padded; turns = h.turns; untouched = untouched }

-- the notes that were found show that a hardened program keeps the meaning on the runs that are asked for, or this fails of them
abbrev pub IsEvidenceFor : Instructions → HardenedProgram → Hardening → Evidence → Type 0
IsEvidenceFor program made h found = IsEvidence program made.program made.certificate found.notes.items (bounds_of h found.untouched) found.mismatch

-- how many are asked for: none, unless it is said
abbrev pub asked_bytes : Hardening → ℕ
asked_bytes h = unwrap_or h.untouched 0

-- so many are those that are asked for, where that is said
abbrev pub AreLeft : Hardening → ℕ → Type 0
AreLeft h untouched = IfSome h.untouched (λ m. untouched ≡ m)

-- what is said of them: nothing of those that are asked for, else their number
abbrev pub IsLeftSaid : Hardening → ℕ → Option ℕ → Type 0
IsLeftSaid h untouched None = untouched ≡ asked_bytes h
IsLeftSaid h untouched (Some m) = (h.untouched ≡ None) × (m ≡ untouched)

abbrev pub said_answer : Option ℕ → Answer
said_answer None = Written
said_answer (Some untouched) = WrittenFor untouched

-- what is answered of a hardening
abbrev pub attempt_answer : Attempt → Answer
attempt_answer (NoImage e) = ImageAnswer e
attempt_answer (NotHardened e) = HardenAnswer e
attempt_answer (NotShown m) = ShowAnswer m
attempt_answer (Hardened kept) = said_answer kept.said

-- What fails goes out with `--unproved`, but no certificate for the contexts if a name for it is given.
abbrev pub goes_out : Hardening → Mismatch → Bool
goes_out h Length = h.unproved && is_none h.certificate
goes_out h Order = h.unproved
goes_out h Start = h.unproved
goes_out h (At slot before fault) = h.unproved
goes_out h TooMany = h.unproved
goes_out h NoExit = h.unproved

-- What was made isn't shown to keep the meaning: for want of memory, or since notes don't match beside the certificate that was found, or there is
-- none, and this doesn't go out.
abbrev pub IsUnshown : Instructions → Instructions → Hardening → UnshownMeaning → Type 0
IsUnshown program made h NoSpace = ⊤
IsUnshown program made h (Differs m) =
    (goes_out h m ≡ false) × ((found : Option CertificateView) × (notes : Notes) × Fails program made found notes (bounds_of h (asked_bytes h)) m)

-- What is told of a hardened program is so: on the contexts and for the turns that were asked for, where runs leave so many bytes to r10, the
-- certificate that was found certifies it and its notes match beside that, or this fails. Without `--unproved` they match. One was found where a name
-- for it is given. Where no note has a counter, they speak of any number of turns.
pub record IsKept (program made : Instructions) (h : Hardening) (found : Option CertificateView) (notes : Notes) (kept : KeptMeaning) : Type 0 where
  pub untouched : ℕ
  pub left : AreLeft h untouched
  pub said : IsLeftSaid h untouched kept.said
  pub bounds_are : kept.bounds ≡ bounds_of h untouched
  pub turns_are : kept.turns ≡ shown_turns notes kept.bounds.turns
  pub shown : IsEvidence program made found notes kept.bounds kept.mismatch
  pub proved : h.unproved ≡ false → kept.mismatch ≡ None
  pub there : IfSome h.certificate (λ _. IsSome found)

-- There are notes of which that is so, and a text is theirs, for the runs that are told, where a name for it is given.
abbrev pub IsNoted : Instructions → Instructions → Hardening → Option CertificateView → KeptMeaning → List ℕ → Type 0
IsNoted program made h found kept text = (notes : Notes) × IsKept program made h found notes kept × IfSome h.notes (λ _. text ≡ notes_text kept.bounds notes)

-- The image is a program's, and what was made of it is a program, of which what is told is so. Where its notes match it keeps the meaning.
pub record Hardens {S : Type 0} (opening : Opening S) (old : S) (h : Hardening) (new : S) (made : Instructions) (found : Option CertificateView) (notes : Notes) (kept : KeptMeaning) : Type 0 where
  pub program : Instructions
  pub loads : LoadsImage opening h.order old h.input.now new program
  pub is_program : IsProgram made.list
  pub is_kept : IsKept program made h found notes kept
  pub keeps : IfNone kept.mismatch (Keeps program made notes kept.bounds)

-- ---- what stands at OUT and at the names of the texts

-- OUT holds the image of the program that was made, and the texts stand at their names
abbrev pub AllStand : {S : Type 0} → Opening S → Making S → S → Hardening → S → KeptMeaning → Type 0
AllStand {S} opening making old h new kept =
    (between put : S) × (made : Instructions) × (found : Option CertificateView) × (notes : Notes) × (changes : List ℕ)
    × Hardens opening old h between made found notes kept × making between h.output.now (image made.order made.list) true put
    × TextsStand making put (texts_of h found (notes_text kept.bounds notes) changes) new

-- all stand, or none of them is opened
abbrev pub HardenSays : {S : Type 0} → Opening S → Making S → S → Hardening → S → Attempt → Type 0
HardenSays opening making old h new (NoImage e) = ImageRefused opening h.order old h.input.now new e
HardenSays opening making old h new (NotHardened e) = (p : Instructions) × LoadsImage opening h.order old h.input.now new p × (harden_slot e < slots p.list)
HardenSays opening making old h new (NotShown m) =
    (p : Instructions) × (made : Instructions) × LoadsImage opening h.order old h.input.now new p × IsProgram made.list × IsUnshown p made h (Differs m)
HardenSays opening making old h new (Hardened kept) = AllStand opening making old h new kept

-- the image can't be put at OUT
abbrev pub NoOut : {S : Type 0} → Opening S → Making S → S → Hardening → S → Type 0
NoOut {S} opening making old h new =
    (between : S) × (made : Instructions) × (found : Option CertificateView) × (notes : Notes) × (kept : KeptMeaning)
    × Hardens opening old h between made found notes kept × making between h.output.now (image made.order made.list) false new

-- it stands at OUT, and one of the texts can't be put at its name
abbrev pub TextsFailBehind : {S : Type 0} → Opening S → Making S → S → Hardening → S → Failure → Type 0
TextsFailBehind {S} opening making old h new failure =
    (between put : S) × (made : Instructions) × (found : Option CertificateView) × (notes : Notes) × (kept : KeptMeaning) × (changes : List ℕ)
    × Hardens opening old h between made found notes kept × making between h.output.now (image made.order made.list) true put
    × TextsFail making put (texts_of h found (notes_text kept.bounds notes) changes) new failure

-- the texts are written when OUT stands
abbrev pub HardenFails : {S : Type 0} → Opening S → Making S → S → Hardening → S → Failure → Type 0
HardenFails opening making old h new (CannotRead name) = ImageFails opening old h.input.now new (CannotRead name)
HardenFails opening making old h new (CannotWrite name) =
    ((name.now ≡ h.output.now) × NoOut opening making old h new) ⊎ TextsFailBehind opening making old h new (CannotWrite name)
HardenFails opening making old h new NoMemory = ⊤
HardenFails opening making old h new failure = ⊥

-- where that fails, the input was opened, or couldn't be, and nothing came to stand at OUT; or OUT stands, and not all of the texts do
abbrev pub NotAllMade : {S : Type 0} → Opening S → Making S → S → Hardening → S → Type 0
NotAllMade opening making old h new =
    Tried opening old h.input.now new ⊎ NoOut opening making old h new ⊎ ((failure : Failure) × TextsFailBehind opening making old h new failure)
