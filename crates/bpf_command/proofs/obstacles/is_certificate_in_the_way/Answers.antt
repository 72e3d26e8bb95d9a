use Rattle.std.proofs.Common.{refl}
use Rattle.bpf_command.proofs.obstacles.is_certificate_in_the_way.Goals as goal

pub returns : goal.returns
returns g c = (c.in_ok-output.output, c.in_ok-notes.notes, c.in_ok-changes.changes, c.in_ok-image.image, c.in_ok-output.ensures, c.in_ok-notes.ensures, c.in_ok-changes.ensures, c.in_ok-image.ensures, refl)
