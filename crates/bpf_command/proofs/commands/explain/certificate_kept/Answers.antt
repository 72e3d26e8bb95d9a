use Rattle.std.proofs.Common.{refl, subst, inr, IfSome}
use Rattle.bpf_cert.specs.ReadAnswers.{IsFaultOf}
use Rattle.bpf_cert.specs.declared.error.CertError.TheVariants.{Read}
use Rattle.bpf_command.proofs.commands.explain.certificate_kept.Goals as goal

pub returns-in-Err-Read-clause-err : goal.returns-in-Err-Read-clause-err
returns-in-Err-Read-clause-err g c =
    let known = g.P.Reader.Read.remaining c.in-Ok.reader in
    let line = c.in-Err-Read.field-0-0 in
    let fault = subst (λ e. IfSome (g.P.Reader.Read.remaining c.new-keeping.result.reader) (λ text. IsFaultOf text e)) c.in-Err-Read.field-0-is c.in-Err-Read.ensures.err in
    let there = subst (λ r. IfSome (g.P.Reader.Read.remaining r) (λ text. IsFaultOf text (Read line))) c.new-keeping.ensures.reader fault in
    (refl, inr (line, (known, c.in-Ok.ensures, there)))
