use Rattle.std.proofs.Common.{ap, sym, ◌∙◌, Some}
use Rattle.bpf_machine.specs.code.Frames.{state_of}
use Rattle.bpf_machine.proofs.FrameLemmas.{left_is}
use Rattle.bpf_machine.proofs.machine.Machine.leave.Goals as goal

pub returns-in-Some-clause-left : goal.returns-in-Some-clause-left
returns-in-Some-clause-left g c _ = (ap (λ m. m.program) c.self.view_is, left_is _ _ _ _ _ _ _ c.self.view_is c.self.invariant c.args.value c.pop.new.self.items c.in-Some.caller c.in-Some.ensures.items ∙ ap (λ rs. Some (state_of c.in-Some.caller.slot rs c.pop.new.self.items c.self.inside.stacks c.self.inside.context.now)) (sym c.leave.ensures))
