use Rattle.std.proofs.Common.{◌∙◌, ◌∷◌, ap, [], length, arith}
use Rattle.std.proofs.lemmas.List.{length-append}
use Rattle.bpf_flat.proofs.FrameLemmas.{waiting_in, pushed}
use Rattle.bpf_flat.proofs.frames.Frames.push.Goals as goal

pub push-requires : goal.push-requires
push-requires g c = (omega (arith, c.self.invariant.few), omega (arith, waiting_in c.self.inside.bytes c.self.inside.callers c.args.self.now c.self.view_is, c.requires))

pub invariant_of-self : goal.invariant_of-self
invariant_of-self g c =
    let waiting = waiting_in c.self.inside.bytes c.self.inside.callers c.args.self.now c.self.view_is in
    let more = ap length c.push.ensures.items ∙ length-append c.self.inside.callers.items (c.args.caller ∷ []) in
    record { few = c.self.invariant.few; size_is = c.self.invariant.size_is; long = c.self.invariant.long; room = omega (arith, waiting, more, c.requires) }

pub returns : goal.returns
returns g c = pushed c.self.inside.bytes c.self.inside.callers c.push.new.self c.args.caller c.args.self.now c.self.view_is c.push.ensures.items
