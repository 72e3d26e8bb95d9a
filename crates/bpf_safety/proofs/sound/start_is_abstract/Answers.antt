use Rattle.bpf_safety.proofs.StartLaws.{start_is_abstract}
use Rattle.bpf_safety.proofs.sound.start_is_abstract.Goals as goal

pub returns : goal.returns
returns c = start_is_abstract c.tighten_keeps.ensures
