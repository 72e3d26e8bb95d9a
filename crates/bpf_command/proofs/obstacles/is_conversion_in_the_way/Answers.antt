use Rattle.std.proofs.Common.{refl}
use Rattle.bpf_command.proofs.obstacles.is_conversion_in_the_way.Goals as goal

pub returns : goal.returns
returns g c = (
  c.in_ok-both.both,
  c.in_ok-image.image,
  c.in_ok-certificate.certificate,
  c.in_ok-output.output,
  c.in_ok-beside.beside,
  c.in_ok-filter.filter,
  c.in_ok-both.ensures,
  c.in_ok-image.ensures,
  c.in_ok-certificate.ensures,
  c.in_ok-output.ensures,
  c.in_ok-beside.ensures,
  c.in_ok-filter.ensures,
  refl,
)
