-- Which status `explain` answers, by what the names hold: that of an answer of the command that judges the same. What it
-- prints are words.
use Rattle.std.specs.Prelude.{◌≡◌, ◌⊎◌, ◌<◌, ℕ, Bool, List, [], Option, Some, None, false, min}
use Rattle.std.specs.Borrow.{Bor}
use Rattle.bpf_insn.specs.Instruction.{Instructions, slots}
use Rattle.bpf_insn.specs.declared.order.Order.{Order}
use Rattle.bpf_text.specs.Assembly.{Assembles, IsRefused}
use Rattle.bpf_text.specs.declared.error.TextError.TheVariants.{Memory as NoRoom}
use Rattle.bpf_cert.specs.View.{CertificateView}
use Rattle.bpf_safety.specs.Certified.{IsLeastFlaw}
use Rattle.bpf_check.specs.CheckedProgram.{IsCertifiedBy}
use Rattle.bpf_check.specs.declared.refusal.Refusal.{Refusal}
use Rattle.bpf_check.specs.RefusalNumbers.{refusal_slot, refusal_number}
use Rattle.bpf_insn.specs.Limits.{max_context}
use Rattle.bpf_infer_base.specs.RefusalNumbers.{infer_slot}
use Rattle.bpf_kept.specs.declared.bounds.Bounds.{Bounds}
use Rattle.bpf_kept.specs.Matching.{Notes}
use Rattle.bpf_kept.specs.Shown.{Keeps}
use Rattle.bpf_certify.specs.Evidence.{Fails}
use Rattle.bpf_infer_base.specs.HardenNumbers.{harden_slot}
use Rattle.bpf_answers.specs.Opened.{Opening}
use Rattle.bpf_answers.specs.Loaded.{ImageFails, ReadableFails, ShortTextAt, Tried}
use Rattle.bpf_answers.specs.Answer.{status_of}
use Rattle.bpf_answers.specs.declared.answer.Answer.{Answer}
use Rattle.bpf_answers.specs.declared.answer.Answer.TheVariants.{NoText, NotCertified, NotProposed, NotHardened, NotShown, Lists, Written}
use Rattle.bpf_answers.specs.Told.{OutputFails}
use Rattle.bpf_command.specs.Printed.{ImageSays, ListSays, LoadedSays, LoadedFails, YesSays}
use Rattle.bpf_command.specs.Inferred.{IsProposal}
use Rattle.bpf_answers.specs.declared.failure.Failure.{Failure}
use Rattle.bpf_answers.specs.declared.failure.Failure.TheVariants.{CannotRead, NotTogether}
use Rattle.bpf_command.specs.declared.request.asking.Explaining.{Explaining}
use Rattle.bpf_command.specs.declared.request.subject.Subject.{Subject}
use Rattle.bpf_command.specs.declared.request.subject.Subject.TheVariants.{Image, Text, Certified, Slot, Inferred, Hardened, Graph, GraphAlone, Misfit}
use Rattle.bpf_command.specs.Limits.{usual_turns}
use Rattle.bpf_command.specs.declared.commands.explain.ExplainTask.{ExplainTask}
use Rattle.bpf_command.specs.declared.commands.explain.ExplainTask.TheVariants.{Search, Harden}

-- the status of an answer of which this holds
abbrev pub Answers : (Answer → Type 0) → ℕ → Type 0
Answers says status = (answer : Answer) × (status ≡ status_of answer) × says answer

-- what is said of the text at a name: its program, or why it is none
abbrev pub TextSays : {S : Type 0} → Opening S → S → List ℕ → S → Answer → Type 0
TextSays opening old input new (NoText e) = ShortTextAt opening old input new (λ text. (e ≡ NoRoom) ⊎ IsRefused text e)
TextSays opening old input new (Lists p) = ShortTextAt opening old input new (λ text. Assembles text p.list)
TextSays opening old input new answer = ⊥

-- the status of the checker's answer: 0 where it certifies, else 1
abbrev pub JudgesOf : Instructions → CertificateView → ℕ → Type 0
JudgesOf p c status = ((status ≡ 0) × IsCertifiedBy p c) ⊎ ((status ≡ 1) × ((r : Refusal) × IsLeastFlaw p c (refusal_slot r) (refusal_number r)))

-- what is said of a program for which a certificate for contexts of this range was sought: the search found one that certifies it, or
-- that doesn't, or it refused
abbrev pub SoughtSays : (least most : ℕ) → Instructions → Answer → Type 0
SoughtSays least most p Written = (c : CertificateView) × IsProposal least most c × IsCertifiedBy p c
SoughtSays least most p (NotCertified r) = (c : CertificateView) × IsProposal least most c × IsLeastFlaw p c (refusal_slot r) (refusal_number r)
SoughtSays least most p (NotProposed e) = infer_slot e < slots p.list
SoughtSays least most p answer = ⊥

-- the runs for which a program is hardened, where so many of the lowest bytes of each frame are left to r10
abbrev pub runs_for : (length : ℕ) → (padded : Bool) → (turns untouched : ℕ) → Bounds
runs_for length padded turns untouched = record { length = min length max_context; padded = padded; turns = turns; untouched = untouched }

-- The new program keeps the meaning of the old one, by some notes, and the certificate is for contexts of this length.
pub record IsHardened (length : ℕ) (padded : Bool) (turns : ℕ) (old new : Instructions) (c : CertificateView) : Type 0 where
  pub untouched : ℕ
  pub notes : Notes
  pub keeps : Keeps old new notes (runs_for length padded turns untouched)
  pub least : c.least ≡ min length max_context
  pub most : c.most ≡ min length max_context

-- What is said of a program that was to be hardened: what was made keeps its meaning, and its certificate certifies it, or doesn't; or none was
-- made; or notes don't show that it keeps the meaning, beside what was found for it.
abbrev pub HardenedSays : (length : ℕ) → (padded : Bool) → (turns : ℕ) → Instructions → Answer → Type 0
HardenedSays length padded turns p Written = (made : Instructions) × (c : CertificateView) × IsHardened length padded turns p made c × IsCertifiedBy made c
HardenedSays length padded turns p (NotCertified r) =
    (made : Instructions) × (c : CertificateView) × IsHardened length padded turns p made c × IsLeastFlaw made c (refusal_slot r) (refusal_number r)
HardenedSays length padded turns p (NotHardened e) = harden_slot e < slots p.list
HardenedSays length padded turns p (NotShown m) =
    (made : Instructions) × (found : Option CertificateView) × (notes : Notes) × Fails p made found notes (runs_for length padded turns 0) m
HardenedSays length padded turns p answer = ⊥

-- what is said of a program for which something was made
abbrev pub TaskSays : ExplainTask → Instructions → Answer → Type 0
TaskSays (Search asked) = SoughtSays asked.wanted.least asked.wanted.most
TaskSays (Harden asked) = HardenedSays asked.length asked.padded asked.turns

-- the image is judged as by `list`, the text as by `asm`, the certificate as by `check`, and what is inferred or hardened as by both
abbrev pub ExplainSays : {S : Type 0} → Opening S → Order → S → List ℕ → Subject → S → ℕ → Type 0
ExplainSays o order old input Image new = Answers (ImageSays o order old input new (ListSays None))
ExplainSays o order old input Text new = Answers (TextSays o old input new)
ExplainSays o order old input (Certified certificate) new = Answers (LoadedSays o order old input certificate.now new (λ bytes. YesSays false))
ExplainSays o order old input (Slot certificate slot) new = Answers (LoadedSays o order old input certificate.now new (λ bytes. YesSays false))
ExplainSays o order old input (Inferred least most deep aspect) new = Answers (ImageSays o order old input new (SoughtSays least most))
ExplainSays o order old input (Hardened length padded aspect) new = Answers (ImageSays o order old input new (HardenedSays length padded usual_turns))
ExplainSays o order old input (Graph certificate) new = Answers (LoadedSays o order old input certificate.now new (λ bytes. YesSays false))
ExplainSays o order old input GraphAlone new = Answers (ImageSays o order old input new (ListSays None))
ExplainSays o order old input (Misfit clash) new = λ status. ⊥

abbrev pub ExplainFails : {S : Type 0} → Opening S → Order → S → List ℕ → Subject → S → Failure → Type 0
ExplainFails o order old input Image new = ImageFails o old input new
ExplainFails o order old input Text new = ReadableFails o old input new
ExplainFails o order old input (Certified certificate) new = LoadedFails o order old input certificate.now new
ExplainFails o order old input (Slot certificate slot) new = LoadedFails o order old input certificate.now new
ExplainFails o order old input (Inferred least most deep aspect) new = ImageFails o old input new
ExplainFails o order old input (Hardened length padded aspect) new = ImageFails o old input new
ExplainFails o order old input (Graph certificate) new = LoadedFails o order old input certificate.now new
ExplainFails o order old input GraphAlone new = ImageFails o old input new
ExplainFails o order old input (Misfit clash) new = λ failure. (failure ≡ NotTogether) × (new ≡ old)

-- ---- with the lines of the source at a name, which is opened first

-- the table of the lines: the text at the name; an empty one where no name is given
abbrev pub LinesAt : {S : Type 0} → Opening S → S → Option (Bor (List ℕ)) → S → List ℕ → Type 0
LinesAt opening old None new table = (new ≡ old) × (table ≡ [])
LinesAt opening old (Some lines) new table = ShortTextAt opening old lines.now new (λ text. table ≡ text)

abbrev pub LinesFail : {S : Type 0} → Opening S → S → Option (Bor (List ℕ)) → S → Failure → Type 0
LinesFail opening old (Some lines) new (CannotRead name) = (name.now ≡ lines.now) × Tried opening old lines.now new
LinesFail opening old lines new failure = OutputFails failure

abbrev pub ExplainWithSays : {S : Type 0} → Opening S → S → Explaining → S → ℕ → Type 0
ExplainWithSays {S} o old e new status =
    (between : S) × (table : List ℕ) × LinesAt o old e.lines between table × ExplainSays o e.order between e.input.now e.subject new status

abbrev pub ExplainWithFails : {S : Type 0} → Opening S → S → Explaining → S → Failure → Type 0
ExplainWithFails {S} o old e new failure =
    LinesFail o old e.lines new failure
    ⊎ ((between : S) × (table : List ℕ) × LinesAt o old e.lines between table × ExplainFails o e.order between e.input.now e.subject new failure)
