use Rattle.bpf_safety.proofs.EntailLaws.{entails_describes}
use Rattle.bpf_safety.proofs.sound.entails_describes.Goals as goal

pub returns : goal.returns
returns c = entails_describes c.entails_includes.ensures
