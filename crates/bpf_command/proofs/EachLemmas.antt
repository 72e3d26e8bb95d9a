-- What is said of contexts at a name, from what is said of them behind an image and a certificate.
use Rattle.std.proofs.Common.{◌≡◌, ℕ, List, Option, subst, inr}
use Rattle.std.specs.Borrow.{Bor}
use Rattle.bpf_insn.specs.Instruction.{Instructions}
use Rattle.bpf_cert.specs.View.{CertificateView}
use Rattle.bpf_kept.specs.Matching.{Notes}
use Rattle.bpf_check.specs.CheckedProgram.{CheckedProgram, IsCertifiedBy, checked}
use Rattle.bpf_command.specs.declared.request.asking.CheckedRunning.{CheckedRunning}
use Rattle.bpf_answers.specs.Opened.{Opening}
use Rattle.bpf_answers.specs.Loaded.{CertificateAt}
use Rattle.bpf_answers.specs.Each.{AnswersAt, FailsAt, LeftAt}
use Rattle.bpf_answers.specs.declared.reply.Reply.TheVariants.{Each}
use Rattle.bpf_answers.specs.declared.failure.Failure.{Failure}
use Rattle.bpf_command.specs.Given.{JudgedEachSays, JudgedEachFails, JudgedEachLeaves}
use Rattle.bpf_command.specs.Printed.{ResultSays}

pub judged_each_says : {S : Type 0} (opening : Opening S) (old : S) (r : CheckedRunning) (noted : Option Notes) (name : Bor (List ℕ)) (between new : S) (p : Instructions) (c : CertificateView) (k : CheckedProgram) (before after : Option (List ℕ)) (status : ℕ)
    → CertificateAt opening old r.certificate.now between c → IsCertifiedBy p c → k ≡ checked p c
    → AnswersAt opening between name.now new (λ context. ResultSays noted context k) before after status → JudgedEachSays opening old r noted name new p before after (Each status)
judged_each_says opening old r noted name between new p c k before after status read by same h =
    inr (between, c, read, by, subst (λ q. AnswersAt opening between name.now new (λ context. ResultSays noted context q) before after status) same h)

pub judged_each_fails : {S : Type 0} (opening : Opening S) (old : S) (r : CheckedRunning) (noted : Option Notes) (name : Bor (List ℕ)) (between new : S) (p : Instructions) (c : CertificateView) (k : CheckedProgram) (before after : Option (List ℕ)) (failure : Failure)
    → CertificateAt opening old r.certificate.now between c → IsCertifiedBy p c → k ≡ checked p c
    → FailsAt opening between name.now new (λ context. ResultSays noted context k) before after failure → JudgedEachFails opening old r noted name new p before after failure
judged_each_fails opening old r noted name between new p c k before after failure read by same h =
    inr (between, c, read, by, subst (λ q. FailsAt opening between name.now new (λ context. ResultSays noted context q) before after failure) same h)

pub judged_each_leaves : {S : Type 0} (opening : Opening S) (old : S) (r : CheckedRunning) (noted : Option Notes) (name : Bor (List ℕ)) (between new : S) (p : Instructions) (c : CertificateView) (k : CheckedProgram) (before after : Option (List ℕ))
    → CertificateAt opening old r.certificate.now between c → IsCertifiedBy p c → k ≡ checked p c
    → LeftAt opening between name.now new (λ context. ResultSays noted context k) before after → JudgedEachLeaves opening old r noted name new p before after
judged_each_leaves opening old r noted name between new p c k before after read by same h =
    inr (between, c, read, by, subst (λ q. LeftAt opening between name.now new (λ context. ResultSays noted context q) before after) same h)
