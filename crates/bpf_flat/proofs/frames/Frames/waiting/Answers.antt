use Rattle.std.proofs.Common.{◌∙◌}
use Rattle.bpf_flat.proofs.FrameLemmas.{waiting_in}
use Rattle.bpf_flat.proofs.frames.Frames.waiting.Goals as goal

pub returns : goal.returns
returns g c = c.len.ensures.value ∙ waiting_in c.self.inside.bytes c.self.inside.callers c.args.self.now c.self.view_is
