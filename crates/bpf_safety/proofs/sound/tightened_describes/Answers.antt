use Rattle.bpf_safety.proofs.TightenedLaws.{tightened_describes}
use Rattle.bpf_safety.proofs.sound.tightened_describes.Goals as goal

pub returns : goal.returns
returns c = tightened_describes c.tighten_keeps.ensures
