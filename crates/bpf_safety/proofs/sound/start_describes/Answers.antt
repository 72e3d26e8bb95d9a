use Rattle.bpf_safety.proofs.StartLaws.{start_describes}
use Rattle.bpf_safety.proofs.sound.start_describes.Goals as goal

pub returns : goal.returns
returns c = start_describes c.tighten_keeps.ensures
