-- Which text is written, what is answered, and what is put at OUT.
use Rattle.std.specs.Prelude.{◌≡◌, ◌⊎◌, Bool, true, false, ⊤, List, ℕ}
use Rattle.bpf_insn.specs.Instruction.{Instructions}
use Rattle.bpf_cert.specs.View.{CertificateView}
use Rattle.bpf_safety.specs.Certified.{IsLeastFlaw}
use Rattle.bpf_check.specs.CheckedProgram.{IsCertifiedBy}
use Rattle.bpf_check.specs.RefusalNumbers.{refusal_slot, refusal_number}
use Rattle.bpf_c.specs.Unit.{unit_text}
use Rattle.bpf_c.specs.declared.bounds.Promise.{Promise}
use Rattle.bpf_command.specs.declared.request.emitting.Emitting.{Emitting}
use Rattle.bpf_answers.specs.Opened.{Opening}
use Rattle.bpf_answers.specs.Made.{Making}
use Rattle.bpf_answers.specs.declared.answer.Answer.{Answer}
use Rattle.bpf_answers.specs.declared.answer.Answer.TheVariants.{NoImage, NoCertificate, NotCertified, Written}
use Rattle.bpf_answers.specs.Loaded.{LoadsImage, ImageFails, ImageRefused, CertificateAt, CertificateFails, CertificateRefused, Tried}
use Rattle.bpf_answers.specs.declared.failure.Failure.{Failure}
use Rattle.bpf_answers.specs.declared.failure.Failure.TheVariants.{CannotRead, CannotWrite, NoMemory}

-- ---- the text

-- what a certificate promises
abbrev pub promise_of : CertificateView → Promise
promise_of c = record { least = c.least; most = c.most; bound = c.steps }

-- that of a program and its certificate, under a name
abbrev pub text_of : List ℕ → Instructions → CertificateView → List ℕ
text_of name p c = unit_text name (promise_of c) p

-- ---- of a program

-- CERT holds this certificate, it certifies the program, and the text was put at OUT, or couldn't be
pub record Puts {S : Type 0} (o : Opening S) (m : Making S) (old : S) (p : Instructions) (e : Emitting) (is_put : Bool) (new : S) : Type 0 where
  pub between : S
  pub certificate : CertificateView
  pub read : CertificateAt o old e.certificate.now between certificate
  pub certified : IsCertifiedBy p certificate
  pub put : m between e.output.now (text_of e.name.now p certificate) is_put new

-- why CERT is refused, why it doesn't certify the program, or the text stands at OUT; of a refusal OUT isn't opened
abbrev pub JudgedSays : {S : Type 0} → Opening S → Making S → S → Instructions → Emitting → S → Answer → Type 0
JudgedSays o m old p e new (NoCertificate error) = CertificateRefused o old e.certificate.now new error
JudgedSays o m old p e new (NotCertified refusal) =
    (c : CertificateView) × CertificateAt o old e.certificate.now new c × IsLeastFlaw p c (refusal_slot refusal) (refusal_number refusal)
JudgedSays o m old p e new Written = Puts o m old p e true new
JudgedSays o m old p e new answer = ⊥

abbrev pub JudgedFails : {S : Type 0} → Opening S → Making S → S → Instructions → Emitting → S → Failure → Type 0
JudgedFails o m old p e new (CannotRead name) = CertificateFails o old e.certificate.now new (CannotRead name)
JudgedFails o m old p e new (CannotWrite name) = (name.now ≡ e.output.now) × Puts o m old p e false new
JudgedFails o m old p e new NoMemory = ⊤
JudgedFails o m old p e new failure = ⊥

-- where that fails, CERT was opened, or couldn't be, and nothing came to stand at OUT
abbrev pub NotJudged : {S : Type 0} → Opening S → Making S → S → Instructions → Emitting → S → Type 0
NotJudged o m old p e new = Tried o old e.certificate.now new ⊎ Puts o m old p e false new

-- ---- of an image

-- IN holds an image, of whose program this holds
abbrev pub Behind : {S : Type 0} → Opening S → S → Emitting → (S → Instructions → Type 0) → Type 0
Behind {S} o old e holds = (between : S) × (p : Instructions) × LoadsImage o e.order old e.input.now between p × holds between p

-- why IN is refused, or what is answered of its program
abbrev pub EmitSays : {S : Type 0} → Opening S → Making S → S → Emitting → S → Answer → Type 0
EmitSays o m old e new (NoImage error) = ImageRefused o e.order old e.input.now new error
EmitSays o m old e new answer = Behind o old e (λ between p. JudgedSays o m between p e new answer)

abbrev pub EmitFails : {S : Type 0} → Opening S → Making S → S → Emitting → S → Failure → Type 0
EmitFails o m old e new (CannotRead name) =
    ImageFails o old e.input.now new (CannotRead name) ⊎ Behind o old e (λ between p. JudgedFails o m between p e new (CannotRead name))
EmitFails o m old e new (CannotWrite name) = Behind o old e (λ between p. JudgedFails o m between p e new (CannotWrite name))
EmitFails o m old e new NoMemory = ⊤
EmitFails o m old e new failure = ⊥

-- where that fails, IN was opened, or couldn't be; or CERT was, too; and nothing came to stand at OUT
abbrev pub NotEmitted : {S : Type 0} → Opening S → Making S → S → Emitting → S → Type 0
NotEmitted o m old e new = Tried o old e.input.now new ⊎ Behind o old e (λ between p. NotJudged o m between p e new)
