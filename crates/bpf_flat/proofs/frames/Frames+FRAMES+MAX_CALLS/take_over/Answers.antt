use Rattle.bpf_flat.proofs.FrameLemmas.{all_view, zeros_behind, none_waits}
use Rattle.bpf_flat.proofs.frames.Frames+FRAMES+MAX_CALLS.take_over.Goals as goal

pub returns : goal.returns
returns c =
    all_view c.copy_from_slice.new.self c.outermost.inside.bytes _ c.outermost.inside.callers c.self.inside.callers c.args.outermost.now c.outermost.invariant c.outermost.view_is c.copy_from_slice.ensures.after
    (zeros_behind c.self.inside.bytes c.self.inside.callers c.args.self.now c.self.invariant c.self.view_is c.requires.zeros)
    (none_waits c.self.inside.bytes c.self.inside.callers c.args.self.now c.self.view_is c.requires.outermost)
