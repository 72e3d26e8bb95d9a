use Rattle.std.proofs.Common.{refl}
use Rattle.bpf_command.proofs.obstacles.is_hardening_in_the_way.Goals as goal

pub returns : goal.returns
returns g c = (c.in_ok-texts.texts, c.in_ok-certificate.certificate, c.in_ok-texts.ensures, c.in_ok-certificate.ensures, refl)
