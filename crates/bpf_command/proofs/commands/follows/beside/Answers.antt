use Rattle.std.proofs.Common.{rules}
use Rattle.bpf_check.specs.CheckedProgram.{IsCertifiedBy}
use Rattle.bpf_answers.specs.Loaded.{CertificateAt}
use Rattle.bpf_command.proofs.FollowedLemmas.{shown_says}
use Rattle.bpf_command.proofs.commands.follows.beside.Goals as goal

pub returns-in-Ok-check-clause-ok : goal.returns-in-Ok-check-clause-ok
returns-in-Ok-check-clause-ok g c =
    let at = g.P.Places.opens in
    let q = c.args.pair.new.now in
    let noted = c.args.pair.noted.now in
    let read : CertificateAt at c.args.places.now c.args.certificate.now c.certificate_at.new.places c.in-Ok.certificate = search rules in
    let by : IsCertifiedBy q c.in-Ok.certificate = search rules in
    shown_says at c.args.places.now c.args.certificate.now c.certificate_at.new.places c.args.pair.old.now q noted.runs noted.notes.items c.in-Ok.certificate read by c.shown.result c.shown.ensures
