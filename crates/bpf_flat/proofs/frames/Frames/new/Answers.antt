use Rattle.bpf_flat.proofs.FrameLemmas.{none_view}
use Rattle.bpf_flat.proofs.frames.Frames.new.Goals as goal

pub returns : goal.returns
returns g c = none_view _ _ c.new.result c.requires.few c.requires.size c.new.ensures
