use Rattle.bpf_flat.proofs.FrameLemmas.{popped}
use Rattle.bpf_flat.proofs.frames.Frames.pop.Goals as goal

pub returns-clause-some : goal.returns-clause-some
returns-clause-some g c = popped c.self.inside.bytes c.self.inside.callers c.pop.new.self c.pop.result c.args.self.now c.self.view_is c.pop.ensures.items
