-- What `check` and `run-checked` say, from what is said of the program that was loaded.
use Rattle.std.proofs.Common.{◌≡◌, ℕ, Bool, List, Result, Ok, Err, IfOk, ap, sym, subst, ◌∙◌}
use Rattle.bpf_insn.specs.Instruction.{Instructions}
use Rattle.bpf_insn.specs.Laws.{ImageIsInjective, IsImageOfProgram}
use Rattle.bpf_insn.specs.declared.order.Order.{Order}
use Rattle.bpf_insn.specs.declared.refusal.DecodeError.{DecodeError}
use Rattle.bpf_cert.specs.View.{CertificateView}
use Rattle.bpf_safety.specs.Theorems.{IsSafe, IsFlatSafe, CertifiedIsSafe, CertifiedIsFlatSafe}
use Rattle.bpf_check.specs.CheckedProgram.{CheckedProgram, IsCertifiedBy, checked}
use Rattle.bpf_check.specs.Verdicts.{Verified, program_in}
use Rattle.bpf_check.proofs.CertificateFacts.{range_is_one, most_fits}
use Rattle.bpf_answers.specs.Opened.{Opening}
use Rattle.bpf_answers.specs.Loaded.{CertificateAt, LoadsImage}
use Rattle.bpf_answers.specs.declared.answer.Answer.{Answer}
use Rattle.bpf_answers.specs.declared.answer.Answer.TheVariants.{Yes, NoImage, NoCertificate, NotCertified}
use Rattle.bpf_command.specs.declared.commands.judged.WantedOfChecked.{WantedOfChecked}
use Rattle.bpf_command.specs.declared.commands.judged.WantedOfChecked.TheVariants.{Promise, Run}
use Rattle.bpf_command.specs.Printed.{JudgedSays, LoadedSays, WishSays, YesSays, IsPromised}

-- ---- what a yes promises

pub verified : ImageIsInjective → CertifiedIsSafe → CertifiedIsFlatSafe → (order : Order) (bytes : List ℕ) (p : Instructions) (c : CertificateView) → IsImageOfProgram order bytes p.list → p.order ≡ order → IsCertifiedBy p c
    → Verified order bytes c.least c.most c.steps
verified one safe flat order bytes p c image is by =
    let same : p ≡ program_in order p.list = ap (λ o. program_in o p.list) is in
    record {
      program = p.list;
      is_image = image;
      only = λ other theirs. one order other p.list theirs.program.encoding by.program.encoding (sym theirs.bytes_are ∙ image.bytes_are);
      range = range_is_one c by.certificate;
      short = most_fits c by.certificate;
      safe = subst (λ q. IsSafe q c.least c.most c.steps) same (safe p c by.program by.certificate by.certified);
      flat = subst (λ q. IsFlatSafe q c.least c.most) same (flat p c by.program by.certificate by.certified);
    }

pub promised : (order : Order) (bytes : List ℕ) (counted : Bool) (p : Instructions) (c : CertificateView) → Verified order bytes c.least c.most c.steps → (x : Answer) → YesSays counted (checked p c) x → YesSays counted (checked p c) x × IsPromised order bytes x
promised order bytes counted p c v (Yes least most bound work) h =
    (h, subst (λ n. Verified order bytes n most bound) (sym h.0) (subst (λ n. Verified order bytes c.least n bound) (sym h.1) (subst (λ n. Verified order bytes c.least c.most n) (sym h.2) v)))
promised order bytes counted p c v x h = absurd h

-- ---- what is said of the image and the certificate

pub said_more : {S : Type 0} (opening : Opening S) (old : S) (certificate : List ℕ) (new : S) (p : Instructions) (P Q : CheckedProgram → Answer → Type 0)
    → ((c : CertificateView) → IsCertifiedBy p c → (x : Answer) → P (checked p c) x → Q (checked p c) x) → (x : Answer) → JudgedSays opening old certificate new p P x → JudgedSays opening old certificate new p Q x
said_more opening old certificate new p P Q f (NoCertificate e) h = h
said_more opening old certificate new p P Q f (NotCertified r) h = h
said_more opening old certificate new p P Q f x h = (h.0, h.1, h.2, f h.0 h.2 x h.3)

pub loaded_says : {S : Type 0} (opening : Opening S) (order : Order) (old : S) (input certificate : List ℕ) (between new : S) (p : Instructions) (image : LoadsImage opening order old input between p) (says : List ℕ → CheckedProgram → Answer → Type 0)
    → ((k : CheckedProgram) (e : DecodeError) → says image.bytes k (NoImage e) → ⊥) → (x : Answer) → JudgedSays opening between certificate new p (says image.bytes) x → LoadedSays opening order old input certificate new says x
loaded_says opening order old input certificate between new p image says none (NoImage e) h = absurd (none (checked p h.0) e h.3)
loaded_says opening order old input certificate between new p image says none x h = (between, p, image, h)

-- what is said of one answer, said of it in another way
pub says_so : {E : Type 0} (result : Result Answer E) (P Q : Answer → Type 0) → ((x : Answer) → P x → Q x) → IfOk result P → IfOk result Q
says_so (Ok x) P Q f h = f x h
says_so (Err e) P Q f h = tt

-- what is wanted of a checked program is said of the certificate
pub granted : {S : Type 0} (opening : Opening S) (old : S) (certificate : List ℕ) (new : S) (p : Instructions) (c : CertificateView) (k : CheckedProgram)
    → k ≡ checked p c → CertificateAt opening old certificate new c → IsCertifiedBy p c → (wish : WantedOfChecked) (x : Answer) → WishSays wish k x → JudgedSays opening old certificate new p (WishSays wish) x
granted opening old certificate new p c k same read by (Promise counted) (NoCertificate e) h = absurd h
granted opening old certificate new p c k same read by (Run context notes) (NoCertificate e) h = absurd h
granted opening old certificate new p c k same read by (Promise counted) (NotCertified r) h = absurd h
granted opening old certificate new p c k same read by (Run context notes) (NotCertified r) h = absurd h
granted opening old certificate new p c k same read by wish x h = (c, read, by, subst (λ q. WishSays wish q x) same h)
