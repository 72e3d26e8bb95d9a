-- What is said of a certificate that is sought for an image's program.
use Rattle.std.specs.Prelude.{◌≡◌, ◌⊎◌, ◌<◌, ◌≤◌, ⊤, ℕ, Bool, true, false}
use Rattle.bpf_insn.specs.Instruction.{Instructions, slots}
use Rattle.bpf_insn.specs.Limits.{max_context}
use Rattle.bpf_cert.specs.View.{CertificateView}
use Rattle.bpf_cert.specs.Limits.{IsCertificate}
use Rattle.bpf_cert.specs.Spelling.{certificate_text}
use Rattle.bpf_infer_base.specs.RefusalNumbers.{infer_slot}
use Rattle.bpf_command.specs.declared.request.asking.Inferring.{Inferring}
use Rattle.bpf_answers.specs.Opened.{Opening}
use Rattle.bpf_answers.specs.Made.{Making}
use Rattle.bpf_answers.specs.Loaded.{ImageFails, ImageRefused, LoadsImage, Tried}
use Rattle.bpf_answers.specs.declared.answer.Answer.{Answer}
use Rattle.bpf_answers.specs.declared.answer.Answer.TheVariants.{NoImage as ImageAnswer, NotProposed as SearchAnswer, Written}
use Rattle.bpf_answers.specs.declared.failure.Failure.{Failure}
use Rattle.bpf_answers.specs.declared.failure.Failure.TheVariants.{CannotRead, CannotWrite, NoMemory}
use Rattle.bpf_command.specs.declared.commands.infer.Inference.{Inference}
use Rattle.bpf_command.specs.declared.commands.infer.Inference.TheVariants.{NoImage, NotProposed, Proposed}

-- what is answered of it
abbrev pub inference_answer : Inference → Answer
inference_answer (NoImage e) = ImageAnswer e
inference_answer (NotProposed e may_deepen) = SearchAnswer e
inference_answer Proposed = Written

-- a certificate that the inferrer may propose for contexts of `least` to `most` bytes
pub record IsProposal (least most : ℕ) (c : CertificateView) : Type 0 where
  pub version_is : c.version ≡ 2
  pub range_is : least ≤ most → most ≤ max_context → (c.least ≡ least) × (c.most ≡ most)
  pub certificate : IsCertificate c

-- A certificate was proposed for the image's program, and its text was put at OUT, or couldn't be.
pub record Proposes {S : Type 0} (o : Opening S) (m : Making S) (old : S) (i : Inferring) (is_put : Bool) (new : S) : Type 0 where
  pub between : S
  pub program : Instructions
  pub certificate : CertificateView
  pub loads : LoadsImage o i.order old i.input.now between program
  pub proposal : IsProposal i.least i.most certificate
  pub put : m between i.output.now (certificate_text certificate) is_put new

-- OUT holds the text of a certificate that was proposed for the image's program, or isn't opened
abbrev pub InferSays : {S : Type 0} → Opening S → Making S → S → Inferring → S → Inference → Type 0
InferSays o m old i new (NoImage e) = ImageRefused o i.order old i.input.now new e
InferSays o m old i new (NotProposed e may_deepen) = (p : Instructions) × LoadsImage o i.order old i.input.now new p × (infer_slot e < slots p.list)
InferSays o m old i new Proposed = Proposes o m old i true new

-- the image can't be read, its certificate can't be put at OUT, or there is no memory
abbrev pub InferFails : {S : Type 0} → Opening S → Making S → S → Inferring → S → Failure → Type 0
InferFails o m old i new (CannotRead name) = ImageFails o old i.input.now new (CannotRead name)
InferFails o m old i new (CannotWrite name) = (name.now ≡ i.output.now) × Proposes o m old i false new
InferFails o m old i new NoMemory = ⊤
InferFails o m old i new failure = ⊥

-- where that fails, the input was opened, or couldn't be, and nothing came to stand at OUT
abbrev pub NotInferred : {S : Type 0} → Opening S → Making S → S → Inferring → S → Type 0
NotInferred o m old i new = Tried o old i.input.now new ⊎ Proposes o m old i false new
