use Rattle.std.proofs.Common.{rules, ◌≡◌}
use Rattle.bpf_check.specs.CheckedProgram.{IsCertifiedBy, checked}
use Rattle.bpf_answers.specs.Loaded.{CertificateAt}
use Rattle.bpf_command.proofs.JudgedLemmas.{granted}
use Rattle.bpf_command.proofs.commands.judged.judged.Goals as goal

pub returns-in-Ok-check-clause-ok : goal.returns-in-Ok-check-clause-ok
returns-in-Ok-check-clause-ok g c =
    let at = g.P.Places.opens in
    let p = g.C.Code.program c.args.program.now in
    let read : CertificateAt at c.args.places.now c.args.certificate.now c.certificate_at.new.places c.in-Ok.certificate = search rules in
    let by : IsCertifiedBy p c.in-Ok.certificate = search rules in
    let same : c.in-Ok-check.checked ≡ checked p c.in-Ok.certificate = c.in-Ok-check.ensures.ok in
    granted at c.args.places.now c.args.certificate.now c.certificate_at.new.places p c.in-Ok.certificate c.in-Ok-check.checked same read by c.args.wish c.grant.result c.grant.ensures
