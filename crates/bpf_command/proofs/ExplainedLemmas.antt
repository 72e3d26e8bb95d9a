-- The status of what is explained, from what is said of the image, the text and the certificate.
use Rattle.std.proofs.Common.{◌≡◌, ◌⊎◌, ℕ, Bool, List, Option, Some, None, IfSome, IfNone, false, Result, Ok, Err, IfOk, IfErr, refl, sym, subst, inl, inr, ◌∙◌, min}
use Rattle.bpf_insn.specs.Instruction.{Instructions}
use Rattle.bpf_insn.specs.Limits.{max_context}
use Rattle.bpf_insn.specs.declared.order.Order.{Order}
use Rattle.bpf_cert.specs.View.{CertificateView}
use Rattle.bpf_safety.specs.Certified.{IsLeastFlaw}
use Rattle.bpf_check.specs.CheckedProgram.{IsCertifiedBy}
use Rattle.bpf_check.specs.RefusalNumbers.{refusal_number, refusal_slot}
use Rattle.bpf_check.specs.declared.refusal.Refusal.{Refusal}
use Rattle.bpf_kept.specs.Shown.{Keeps}
use Rattle.bpf_certify.specs.Evidence.{Fails}
use Rattle.bpf_explain.specs.Hardened.{IsMade, IsUnhardened}
use Rattle.bpf_explain.specs.declared.hardened.HardeningAsked.{HardeningAsked}
use Rattle.bpf_explain.specs.declared.hardened.HardenedProgram.{HardenedProgram}
use Rattle.bpf_explain.specs.declared.refusal.Unhardened.{Unhardened}
use Rattle.bpf_explain.specs.declared.refusal.Unhardened.TheVariants.{Refused, Unshown}
use Rattle.bpf_answers.specs.Opened.{Opening, Unreadable}
use Rattle.bpf_answers.specs.Loaded.{LoadsImage, CertificateAt, ShortTextAt, TextAt, TextFails, Tried}
use Rattle.bpf_answers.specs.Answer.{Says, status_of}
use Rattle.bpf_answers.specs.declared.answer.Answer.{Answer}
use Rattle.bpf_answers.specs.declared.answer.Answer.TheVariants.{Yes, NoImage, NotCertified, NotHardened, NotShown, Written}
use Rattle.bpf_command.specs.Printed.{ImageSays, JudgedSays, LoadedSays, YesSays}
use Rattle.bpf_command.specs.Inferred.{IsProposal}
use Rattle.std.specs.Borrow.{Bor}
use Rattle.bpf_answers.specs.declared.failure.Failure.{Failure}
use Rattle.bpf_answers.specs.declared.failure.Failure.TheVariants.{CannotRead}
use Rattle.bpf_command.specs.Explained.{Answers, HardenedSays, IsHardened, JudgesOf, LinesAt, LinesFail, SoughtSays, TaskSays}
use Rattle.bpf_command.specs.declared.commands.explain.ExplainTask.{ExplainTask}
use Rattle.bpf_command.specs.declared.commands.explain.ExplainTask.TheVariants.{Search, Harden}
use Rattle.bpf_command.proofs.JudgedLemmas.{loaded_says}

-- an answer that was printed has its status
pub printed_so : {E : Type 0} (result : Result ℕ E) (answer : Answer) (old new : Option (List ℕ)) (P : Answer → Type 0) → P answer → IfOk result (λ status. Says answer status old new) → IfOk result (Answers P)
printed_so (Ok s) answer old new P p h = (answer, h.status_is, p)
printed_so (Err e) answer old new P p h = tt

-- so has one that wasn't
pub answered_so : {E : Type 0} (result : Result ℕ E) (n : ℕ) (answer : Answer) (P : Answer → Type 0) → n ≡ status_of answer → P answer → IfOk result (λ s. s ≡ n) → IfOk result (Answers P)
answered_so (Ok s) n answer P e p h = (answer, h ∙ e, p)
answered_so (Err f) n answer P e p h = tt

-- ---- certificates

pub judged_so : {S E : Type 0} (result : Result ℕ E) (opening : Opening S) (old : S) (certificate : List ℕ) (new : S) (p : Instructions) (c : CertificateView) → CertificateAt opening old certificate new c
    → IfOk result (JudgesOf p c) → IfOk result (Answers (JudgedSays opening old certificate new p (YesSays false)))
judged_so (Ok s) opening old certificate new p c read (inl h) = (Yes c.least c.most c.steps None, h.0, (c, read, h.1, (refl, refl, refl, refl)))
judged_so (Ok s) opening old certificate new p c read (inr h) = (NotCertified (h.1).0, h.0, (c, read, (h.1).1))
judged_so (Err e) opening old certificate new p c read h = tt

pub loaded_so : {S E : Type 0} (result : Result ℕ E) (opening : Opening S) (order : Order) (old : S) (input certificate : List ℕ) (between new : S) (p : Instructions) → LoadsImage opening order old input between p
    → IfOk result (Answers (JudgedSays opening between certificate new p (YesSays false))) → IfOk result (Answers (LoadedSays opening order old input certificate new (λ bytes. YesSays false)))
loaded_so (Ok s) opening order old input certificate between new p image h = (h.0, h.1, loaded_says opening order old input certificate between new p image (λ bytes. YesSays false) (λ k e n. n) h.0 h.2)
loaded_so (Err e) opening order old input certificate between new p image h = tt

-- ---- the inferrer

pub sought : (least most : ℕ) (p : Instructions) (c : CertificateView) (status : ℕ) → IsProposal least most c → JudgesOf p c status → Answers (SoughtSays least most p) status
sought least most p c status found (inl h) = (Written, h.0, (c, found, h.1))
sought least most p c status found (inr h) = (NotCertified (h.1).0, h.0, (c, found, (h.1).1))

-- a certificate is judged as the checker's refusal is answered
pub judges_by : (p : Instructions) (c : CertificateView) (o : Option Refusal) (status : ℕ) → IfNone o (IsCertifiedBy p c) → IfSome o (λ r. IsLeastFlaw p c (refusal_slot r) (refusal_number r)) → IfNone o (status ≡ 0) → IfSome o (λ r. status ≡ 1) → JudgesOf p c status
judges_by p c None status certifies flaw done refused = inl (done, certifies)
judges_by p c (Some r) status certifies flaw done refused = inr (refused, (r, flaw))

-- ---- what is made for a program

-- what was hardened is told so, with the checker's answer
pub hardened_so : (length : ℕ) (padded : Bool) (turns : ℕ) (p made : Instructions) (c : CertificateView) (status : ℕ) → IsHardened length padded turns p made c → JudgesOf made c status
    → Answers (HardenedSays length padded turns p) status
hardened_so length padded turns p made c status is (inl h) = (Written, h.0, (made, c, is, h.1))
hardened_so length padded turns p made c status is (inr h) = (NotCertified (h.1).0, h.0, (made, c, is, (h.1).1))

-- what is hardened for contexts of at most the greatest length, is so for those that were asked for
pub is_hardened : (within : HardeningAsked) (length : ℕ) (p : Instructions) (m : HardenedProgram) → within.length ≡ min length max_context → IsMade p within m → IsHardened length within.padded within.turns p m.program m.certificate
is_hardened within length p m same made =
    record {
      untouched = m.untouched;
      notes = made.notes;
      keeps = subst (λ n. Keeps p m.program made.notes (record { length = n; padded = within.padded; turns = within.turns; untouched = m.untouched })) same made.keeps;
      least = made.least ∙ same;
      most = made.most ∙ same;
    }

-- what isn't hardened is told with its refusal
pub unhardened_so : (within : HardeningAsked) (length : ℕ) (p : Instructions) (why : Unhardened) → within.length ≡ min length max_context → IsUnhardened p within why → Answers (HardenedSays length within.padded within.turns p) 1
unhardened_so within length p (Refused e) same inside = (NotHardened e, refl, inside)
unhardened_so within length p (Unshown m) same fails = (
  NotShown m,
  refl,
  (fails.0, fails.1, fails.2, subst (λ n. Fails p fails.0 fails.1 fails.2 (record { length = n; padded = within.padded; turns = within.turns; untouched = 0 }) m) same fails.3),
)

made_says : {S : Type 0} (opening : Opening S) (order : Order) (old : S) (input : List ℕ) (new : S) (task : ExplainTask) (p : Instructions) → LoadsImage opening order old input new p → (x : Answer) → TaskSays task p x
    → ImageSays opening order old input new (TaskSays task) x
made_says opening order old input new (Search asked) p image (NoImage e) h = absurd h
made_says opening order old input new (Harden asked) p image (NoImage e) h = absurd h
made_says opening order old input new task p image x h = (p, image, h)

pub made_so : {S E : Type 0} (result : Result ℕ E) (opening : Opening S) (order : Order) (old : S) (input : List ℕ) (new : S) (task : ExplainTask) (p : Instructions) → LoadsImage opening order old input new p
    → IfOk result (Answers (TaskSays task p)) → IfOk result (Answers (ImageSays opening order old input new (TaskSays task)))
made_so (Ok s) opening order old input new task p image h = (h.0, h.1, made_says opening order old input new task p image h.0 h.2)
made_so (Err e) opening order old input new task p image h = tt

-- ---- with the lines of the source

tried : {S : Type 0} {P : List ℕ → Type 0} (o : Opening S) (old : S) (name : List ℕ) (new : S) → Unreadable o old name new ⊎ TextAt o old name new P → Tried o old name new
tried o old name new (inl (inl h)) = (None, h)
tried o old name new (inl (inr h)) = (Some h.0, h.1)
tried o old name new (inr h) = (Some h.0, h.1)

lines_fail : {S : Type 0} (o : Opening S) (old : S) (name : Bor (List ℕ)) (new : S) (f : Failure) → TextFails o old name.now new f → LinesFail o old (Some name) new f
lines_fail o old name new (CannotRead n) h = (h.0, tried o old name.now new h.1)
lines_fail o old name new f h = h

-- the text at the name can't be read
pub lines_unread : {S A : Type 0} (result : Result A Failure) (o : Opening S) (old : S) (lines : Option (Bor (List ℕ))) (name : Bor (List ℕ)) (new : S) → lines ≡ Some name
    → IfErr result (TextFails o old name.now new) → IfErr result (LinesFail o old lines new)
lines_unread (Ok x) o old lines name new is h = tt
lines_unread (Err f) o old lines name new is h = subst (λ l. LinesFail o old l new f) (sym is) (lines_fail o old name new f h)

-- it can, and is no table
pub no_table : {S : Type 0} {P : List ℕ → Type 0} (o : Opening S) (old : S) (lines : Option (Bor (List ℕ))) (name : Bor (List ℕ)) (new : S) → lines ≡ Some name
    → TextAt o old name.now new P → LinesFail o old lines new (CannotRead name)
no_table o old lines name new is h = subst (λ l. LinesFail o old l new (CannotRead name)) (sym is) (refl, (Some h.0, h.1))

-- it is one
pub lines_read : {S : Type 0} (o : Opening S) (old : S) (lines : Option (Bor (List ℕ))) (name : Bor (List ℕ)) (new : S) (table : List ℕ) → lines ≡ Some name
    → ShortTextAt o old name.now new (λ text. table ≡ text) → LinesAt o old lines new table
lines_read o old lines name new table is h = subst (λ l. LinesAt o old l new table) (sym is) h
