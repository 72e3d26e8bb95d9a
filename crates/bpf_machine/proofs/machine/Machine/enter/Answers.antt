use Rattle.std.proofs.Common.{arith, length, ◌<◌, ◌+◌, ◌∙◌, ap, refl}
use Rattle.bpf_machine.specs.Running.{running}
use Rattle.bpf_machine.specs.code.Frames.{state_of}
use Rattle.bpf_machine.specs.declared.machine.Caller.{Caller}
use Rattle.bpf_machine.proofs.FrameLemmas.{live_is, entering}
use Rattle.bpf_machine.proofs.machine.Machine.enter.Goals as goal

pub push-requires : goal.push-requires
push-requires g c =
    let few : length c.self.inside.callers.items < 7 = omega (arith, live_is _ _ _ _ _ _ _ c.self.view_is c.self.invariant, c.requires.room) in
    (omega arith, few)

pub returns : goal.returns
returns g c =
    let caller : Caller = record { slot = c.self.inside.slot + 1; kept = c.kept.result } in
    ap (λ rs. running (g.C.Code.program c.self.inside.code.now) (state_of c.args.slot rs c.push.new.self.items c.clear.new.self c.self.inside.context.now)) c.enter.ensures
    ∙ entering _ _ _ _ _ _ _ c.self.view_is c.self.invariant c.args.slot c.len-depth.result caller c.push.new.self.items c.clear.new.self c.requires.room c.len-depth.ensures.value c.clear.ensures refl c.kept.ensures c.push.ensures.items
