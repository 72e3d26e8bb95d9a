-- What `follows` says, from what is said of the programs and the notes that were loaded.
use Rattle.std.proofs.Common.{ℕ, List, Result, Ok, Err, IfErr, inr}
use Rattle.bpf_insn.specs.Instruction.{Instructions}
use Rattle.bpf_cert.specs.View.{CertificateView}
use Rattle.bpf_kept.specs.Matching.{Notes}
use Rattle.bpf_kept.specs.declared.bounds.Bounds.{Bounds}
use Rattle.bpf_check.specs.CheckedProgram.{IsCertifiedBy, checked}
use Rattle.bpf_command.specs.declared.request.following.Following.{Following}
use Rattle.bpf_answers.specs.Opened.{Opening}
use Rattle.bpf_answers.specs.Loaded.{CertificateAt, CertificateFails, LoadsImage}
use Rattle.bpf_answers.specs.Notes.{LoadsNotes}
use Rattle.bpf_answers.specs.declared.answer.Answer.{Answer}
use Rattle.bpf_answers.specs.declared.answer.Answer.TheVariants.{NoCertificate, NoNew, NoNotes, NoOld, NotCertified}
use Rattle.bpf_answers.specs.declared.failure.Failure.{Failure}
use Rattle.bpf_answers.specs.declared.failure.Failure.TheVariants.{CannotRead}
use Rattle.bpf_command.specs.Printed.{JudgedSays}
use Rattle.bpf_command.specs.Followed.{FollowsFails, FollowsSays, NotedFails, NotedSays, RewrittenFails, RewrittenSays, ShownSays}

pub shown_says : {S : Type 0} (opening : Opening S) (old : S) (certificate : List ℕ) (new : S) (p q : Instructions) (runs : Bounds) (notes : Notes) (c : CertificateView)
    → CertificateAt opening old certificate new c → IsCertifiedBy q c → (x : Answer) → ShownSays p runs notes (checked q c) x → JudgedSays opening old certificate new q (ShownSays p runs notes) x
shown_says opening old certificate new p q runs notes c read by (NoCertificate e) h = absurd h
shown_says opening old certificate new p q runs notes c read by (NotCertified r) h = absurd h
shown_says opening old certificate new p q runs notes c read by x h = (c, read, by, h)

pub noted_says : {S : Type 0} (opening : Opening S) (old : S) (f : Following) (between new : S) (p q : Instructions) (runs : Bounds) (notes : Notes)
    → LoadsNotes opening old f.notes.now between runs notes → (x : Answer) → JudgedSays opening between f.certificate.now new q (ShownSays p runs notes) x → NotedSays opening old f new p q x
noted_says opening old f between new p q runs notes loads (NoNotes e) h = absurd h.3
noted_says opening old f between new p q runs notes loads x h = (between, runs, notes, loads, h)

pub rewritten_says : {S : Type 0} (opening : Opening S) (old : S) (f : Following) (between new : S) (p q : Instructions) → LoadsImage opening f.order old f.rewritten.now between q
    → (x : Answer) → NotedSays opening between f new p q x → RewrittenSays opening old f new p x
rewritten_says opening old f between new p q loads (NoNew e) h = absurd h.4.3
rewritten_says opening old f between new p q loads x h = (between, q, loads, h)

pub follows_says : {S : Type 0} (opening : Opening S) (old : S) (f : Following) (between new : S) (p : Instructions) → LoadsImage opening f.order old f.original.now between p
    → (x : Answer) → RewrittenSays opening between f new p x → FollowsSays opening old f new x
follows_says opening old f between new p loads (NoOld e) h = absurd h.3.4.3
follows_says opening old f between new p loads x h = (between, p, loads, h)

pub noted_fails : {S A : Type 0} (result : Result A Failure) (opening : Opening S) (old : S) (f : Following) (between new : S) (runs : Bounds) (notes : Notes)
    → LoadsNotes opening old f.notes.now between runs notes → IfErr result (CertificateFails opening between f.certificate.now new) → IfErr result (NotedFails opening old f new)
noted_fails (Ok s) opening old f between new runs notes loads h = tt
noted_fails (Err (CannotRead name)) opening old f between new runs notes loads h = inr (between, runs, notes, loads, h)
noted_fails (Err failure) opening old f between new runs notes loads h = h

pub rewritten_fails : {S A : Type 0} (result : Result A Failure) (opening : Opening S) (old : S) (f : Following) (between new : S) (q : Instructions) → LoadsImage opening f.order old f.rewritten.now between q
    → IfErr result (NotedFails opening between f new) → IfErr result (RewrittenFails opening old f new)
rewritten_fails (Ok s) opening old f between new q loads h = tt
rewritten_fails (Err (CannotRead name)) opening old f between new q loads h = inr (between, q, loads, h)
rewritten_fails (Err failure) opening old f between new q loads h = h

pub follows_fails : {S A : Type 0} (result : Result A Failure) (opening : Opening S) (old : S) (f : Following) (between new : S) (p : Instructions) → LoadsImage opening f.order old f.original.now between p
    → IfErr result (RewrittenFails opening between f new) → IfErr result (FollowsFails opening old f new)
follows_fails (Ok s) opening old f between new p loads h = tt
follows_fails (Err (CannotRead name)) opening old f between new p loads h = inr (between, p, loads, h)
follows_fails (Err failure) opening old f between new p loads h = h
