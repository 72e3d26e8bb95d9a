-- What is said of the names of a certification, from what is said of each.
use Rattle.std.proofs.Common.{◌≡◌, ◌⊎◌, ◌≤◌, Some, None, ℕ, List, ◌++◌, false, Option, Result, Ok, Err, IfOk, IfErr, IfSome, IsTrue, refl, sym, subst, inl, inr}
use Rattle.bpf_insn.specs.Instruction.{Instructions}
use Rattle.bpf_insn.specs.Image.{image}
use Rattle.bpf_insn.specs.Limits.{max_context}
use Rattle.bpf_cert.specs.View.{CertificateView}
use Rattle.bpf_cert.specs.Spelling.{certificate_text}
use Rattle.bpf_kept.specs.Matching.{Notes}
use Rattle.bpf_certify.specs.Certified.{Answers as IsAnswer, IsPaid, StandsFor}
use Rattle.bpf_certify.specs.declared.certified.Certified.{Certified}
use Rattle.bpf_certify.specs.declared.certified.Rewritten.{Rewritten}
use Rattle.bpf_command.specs.CommandLine.{hardening_of}
use Rattle.bpf_command.specs.declared.request.certifying.Certifying.{Certifying}
use Rattle.bpf_answers.specs.Opened.{Opening}
use Rattle.bpf_answers.specs.Both.{Pairing, Putting}
use Rattle.bpf_answers.specs.Both.Put.{Both}
use Rattle.bpf_answers.specs.Loaded.{ImageFails, LoadsImage}
use Rattle.bpf_answers.specs.Told.{IsQuiet}
use Rattle.bpf_answers.specs.declared.certified.Certification.{Certification}
use Rattle.bpf_answers.specs.declared.failure.Failure.{Failure}
use Rattle.bpf_answers.specs.declared.failure.Failure.TheVariants.{CannotRead, CannotWrite, NoMemory}
use Rattle.bpf_command.specs.Certified.{AllPut, Certifies, CertifyFails, CertifyWithFails, IsAllPut, IsMadeOf, NoPair, NotAllPut, NotCertified, NotCertifiedWith, Stands, StandsNot, made_of, most_of, noted_text, notes_of, program_of, rewriting_of, told_of, wish_of}
use Rattle.bpf_command.specs.Explained.{LinesAt}
use Rattle.bpf_command.specs.Texts.{NamedTexts, TextsFail, TextsStand, named, notes_and_changes}
use Rattle.bpf_command.proofs.TextsLemmas.{IsOfWriting, named_as, texts_fault}

-- ---- what is certified

paid_for : (program : Instructions) (c : Certifying) (length : ℕ) (d : Certified) (rewritten : Option Rewritten) → StandsFor program length (wish_of c) d rewritten
    → IsPaid (program_of program rewritten) d.certificate length (most_of c) d.bound
paid_for program c length d None stands = stands.1
paid_for program c length d (Some r) stands = stands.paid

made_for : (program : Instructions) (c : Certifying) (length : ℕ) (d : Certified) (rewritten : Option Rewritten) → StandsFor program length (wish_of c) d rewritten
    → (c.unproved ≡ false → IfSome rewritten (λ r. IsTrue r.is_shown))
    → IsMadeOf program (program_of program rewritten) c length d.certificate (notes_of rewritten) (rewriting_of c rewritten)
made_for program c length d None stands shown = (refl, stands.0, refl)
made_for program c length d (Some r) stands shown =
    record { padded_is = refl; turns_are = stands.turns_are; told_are = refl; order_is = stands.order_is; shown = shown; matches = stands.matches; keeps = stands.keeps }

-- what was found for the program at the name is certified as it is told
pub certifies_of : {S : Type 0} (opening : Opening S) (old : S) (c : Certifying) (new : S) (program : Instructions) (length : ℕ) (d : Certified)
    → (c.length ≤ max_context → length ≡ c.length) → LoadsImage opening c.order old c.input.now new program → IsAnswer program length (wish_of c) d
    → (c.unproved ≡ false → IfSome d.rewritten (λ r. IsTrue r.is_shown)) → Certifies opening old c new (made_of program d) d.certificate (notes_of d.rewritten) (told_of c length d)
certifies_of opening old c new program length d short loads answers shown = record {
  program = program;
  loads = loads;
  length_is = short;
  paid = paid_for program c length d d.rewritten answers;
  is_made = made_for program c length d d.rewritten answers shown;
}

-- ---- what is put at the names

pub all_put : {S E : Type 0} (result : Result ℕ E) (w : Putting S) (old : S) (c : Certifying) (made : Instructions) (certificate : CertificateView) (texts : NamedTexts) (between new : S)
    → w.pairs old c.output.now (image made.order made.list) c.certificate.now (certificate_text certificate) Both between
    → IfOk result (λ status. (status ≡ 0) × TextsStand w.makes between texts new) → IfOk result (IsAllPut w old c made certificate texts new)
all_put (Ok s) w old c made certificate texts between new pair stand = (stand.0, (between, pair, stand.1))
all_put (Err e) w old c made certificate texts between new pair stand = tt

pub texts_unput : {S A : Type 0} (result : Result A Failure) (w : Putting S) (old : S) (c : Certifying) (made : Instructions) (certificate : CertificateView) (texts : NamedTexts) (between new : S)
    → w.pairs old c.output.now (image made.order made.list) c.certificate.now (certificate_text certificate) Both between
    → IfErr result (TextsFail w.makes between texts new) → IfErr result (NotAllPut w old c made certificate texts new)
texts_unput (Ok s) w old c made certificate texts between new pair fails = tt
texts_unput (Err f) w old c made certificate texts between new pair fails = inr (between, pair, fails)

pub pair_unput : {S A : Type 0} (result : Result A Failure) (w : Putting S) (old : S) (c : Certifying) (made : Instructions) (certificate : CertificateView) (texts : NamedTexts) (new : S)
    → IfErr result (NoPair w.pairs old c made certificate new) → IfErr result (NotAllPut w old c made certificate texts new)
pair_unput (Ok s) w old c made certificate texts new fails = tt
pair_unput (Err f) w old c made certificate texts new fails = inl fails

-- ---- behind what was certified

-- the texts are those of which it is said
texts_as : (c : Certifying) (text other changes : List ℕ) → IfSome c.notes (λ _. text ≡ other) → notes_and_changes (hardening_of c) text changes ≡ notes_and_changes (hardening_of c) other changes
texts_as c text other changes same = subst (λ t. notes_and_changes (hardening_of c) text changes ≡ (t ++ named c.changes changes)) (named_as c.notes text other same) refl

pub stands_so : {S : Type 0} (o : Opening S) (w : Putting S) (old : S) (c : Certifying) (between new : S) (made other : Instructions) (certificate : CertificateView) (notes : Notes) (told also : Certification) (text changes : List ℕ)
    → Certifies o old c between other certificate notes also → made ≡ other → told ≡ also → IfSome c.notes (λ _. text ≡ noted_text also notes)
    → AllPut w between c made certificate (notes_and_changes (hardening_of c) text changes) new → Stands o w old c new told
stands_so o w old c between new made other certificate notes told also text changes certifies same_made same_told same put = (
  between,
  other,
  certificate,
  notes,
  also,
  changes,
  certifies,
  (
    same_told,
    subst (λ t. AllPut w between c other certificate t new) (texts_as c text (noted_text also notes) changes same)
        (subst (λ m. AllPut w between c m certificate (notes_and_changes (hardening_of c) text changes) new) same_made put),
  ),
)

pub stands_not : {S A : Type 0} (result : Result A Failure) (o : Opening S) (w : Putting S) (old : S) (c : Certifying) (between new : S) (made other : Instructions) (certificate : CertificateView) (notes : Notes) (told : Certification)
    (text changes : List ℕ) → Certifies o old c between other certificate notes told → made ≡ other → IfSome c.notes (λ _. text ≡ noted_text told notes)
    → IfErr result (NotAllPut w between c made certificate (notes_and_changes (hardening_of c) text changes) new) → IfErr result (StandsNot o w old c new)
stands_not (Ok s) o w old c between new made other certificate notes told text changes certifies same_made same fails = tt
stands_not (Err f) o w old c between new made other certificate notes told text changes certifies same_made same fails = (
  between,
  other,
  certificate,
  notes,
  told,
  changes,
  certifies,
  subst (λ t. NotAllPut w between c other certificate t new f) (texts_as c text (noted_text told notes) changes same)
      (subst (λ m. NotAllPut w between c m certificate (notes_and_changes (hardening_of c) text changes) new f) same_made fails),
)

-- ---- why they can't be put there

no_pair : {S : Type 0} (b : Pairing S) (old : S) (c : Certifying) (made : Instructions) (certificate : CertificateView) (new : S) (f : Failure) → NoPair b old c made certificate new f → IsOfWriting f
no_pair b old c made certificate new f (inl (inl is, left)) = subst IsOfWriting (sym is) tt
no_pair b old c made certificate new f (inl (inr (inl is), left)) = subst IsOfWriting (sym is) tt
no_pair b old c made certificate new f (inl (inr (inr is), left)) = subst IsOfWriting (sym is) tt
no_pair b old c made certificate new f (inr (is, left)) = subst IsOfWriting (sym is) tt

of_writing : {S : Type 0} (w : Putting S) (old : S) (c : Certifying) (made : Instructions) (certificate : CertificateView) (texts : NamedTexts) (new : S) (f : Failure) → NotAllPut w old c made certificate texts new f → IsOfWriting f
of_writing w old c made certificate texts new f (inl fails) = no_pair w.pairs old c made certificate new f fails
of_writing w old c made certificate texts new f (inr fails) = texts_fault w.makes fails.0 texts new f fails.2

fails_of : {S : Type 0} (o : Opening S) (w : Putting S) (old : S) (c : Certifying) (new : S) (f : Failure) → IsOfWriting f → StandsNot o w old c new f → CertifyFails o w old c new f
fails_of o w old c new (CannotWrite name) writing fails = fails
fails_of o w old c new NoMemory writing fails = tt
fails_of o w old c new f writing fails = absurd writing

pub puts_fail : {S A : Type 0} (result : Result A Failure) (o : Opening S) (w : Putting S) (old : S) (c : Certifying) (new : S) → IfErr result (StandsNot o w old c new) → IfErr result (CertifyFails o w old c new)
puts_fail (Ok s) o w old c new fails = tt
puts_fail (Err f) o w old c new (between, made, certificate, notes, told, changes, certifies, unput) =
    fails_of o w old c new f (of_writing w between c made certificate (notes_and_changes (hardening_of c) (noted_text told notes) changes) new f unput)
    (between, made, certificate, notes, told, changes, certifies, unput)

pub puts_left : {S A : Type 0} (result : Result A Failure) (o : Opening S) (w : Putting S) (old : S) (c : Certifying) (new : S) → IfErr result (StandsNot o w old c new) → IfErr result (λ _. NotCertified o w old c new)
puts_left (Ok s) o w old c new left = tt
puts_left (Err f) o w old c new left = inr (f, left)

-- the image can't be read
pub unread : {S : Type 0} (o : Opening S) (w : Putting S) (old : S) (c : Certifying) (new : S) (f : Failure) → ImageFails o old c.input.now new f → IsQuiet f → CertifyFails o w old c new f
unread o w old c new (CannotRead name) fails quiet = fails
unread o w old c new (CannotWrite name) fails quiet = absurd quiet
unread o w old c new NoMemory fails quiet = tt
unread o w old c new f fails quiet = absurd fails

-- ---- behind the lines of the source

pub with_fails : {S A : Type 0} (result : Result A Failure) (o : Opening S) (w : Putting S) (old : S) (c : Certifying) (between new : S) (table : List ℕ) → LinesAt o old c.lines between table
    → IfErr result (CertifyFails o w between c new) → IfErr result (CertifyWithFails o w old c new)
with_fails (Ok s) o w old c between new table lines fails = tt
with_fails (Err f) o w old c between new table lines fails = inr (between, table, lines, fails)

pub with_left : {S A : Type 0} (result : Result A Failure) (o : Opening S) (w : Putting S) (old : S) (c : Certifying) (between new : S) (table : List ℕ) → LinesAt o old c.lines between table
    → IfErr result (λ _. NotCertified o w between c new) → IfErr result (λ _. NotCertifiedWith o w old c new)
with_left (Ok s) o w old c between new table lines left = tt
with_left (Err f) o w old c between new table lines left = inr (between, table, lines, left)
