use Rattle.std.proofs.Common.{refl, subst, Some}
use Rattle.bpf_command.specs.Obstacles.{IsCertificateInTheWay, IsInTheWay}
use Rattle.bpf_command.proofs.obstacles.is_any_in_the_way.Goals as goal

pub returns : goal.returns
returns g c = (
  c.in_ok-hardened.hardened,
  c.in_ok-certificate.certificate,
  c.in_ok-lines.lines,
  subst (λ h. IsInTheWay g.P.Places.meets c.args.places.now h c.in_ok-hardened.hardened) c.hardening.ensures c.in_ok-hardened.ensures,
  subst (λ h. IsCertificateInTheWay g.P.Places.meets c.args.places.now (Some c.args.asked.certificate) h c.in_ok-certificate.certificate) c.hardening-2.ensures c.in_ok-certificate.ensures,
  c.in_ok-lines.ensures,
  refl,
)
