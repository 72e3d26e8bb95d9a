use Rattle.std.proofs.Common.{refl, subst, inr, IfSome, Some}
use Rattle.bpf_cert.specs.ReadAnswers.{IsFaultOf}
use Rattle.bpf_answers.proofs.certificate.certificate_at.Goals as goal

pub returns-in-Err-Read-clause-err : goal.returns-in-Err-Read-clause-err
returns-in-Err-Read-clause-err g c =
    let known = g.P.Reader.Read.remaining c.in-Ok.reader in
    let fault = subst (λ e. IfSome known (λ text. IsFaultOf text e)) c.in-Err-Read.field-0-is c.in-Err-Read.ensures.err in
    (refl, inr (c.in-Err-Read.field-0-0, (known, c.in-Ok.ensures, fault)))

pub returns-in-Err-Read-clause-names : goal.returns-in-Err-Read-clause-names
returns-in-Err-Read-clause-names g c = (Some (g.P.Reader.Read.remaining c.in-Ok.reader), c.in-Ok.ensures)

pub returns-in_default-clause-names : goal.returns-in_default-clause-names
returns-in_default-clause-names g c = (Some (g.P.Reader.Read.remaining c.in-Ok.reader), c.in-Ok.ensures)
