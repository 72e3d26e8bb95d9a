use Rattle.std.proofs.Common.{arith, ◌∙◌, subst}
use Rattle.bpf_machine.specs.code.Locations.{IsInside}
use Rattle.bpf_machine.proofs.FrameLemmas.{live_is, pointer_there}
use Rattle.bpf_machine.proofs.machine.Machine.pointer_at.Goals as goal

pub pointer-requires-clause-live : goal.pointer-requires-clause-live
pointer-requires-clause-live g c = let here = subst (IsInside c.args.self.now.state 8) c.in-Frame.is c.requires in omega (arith, live_is _ _ _ _ _ _ _ c.self.view_is c.self.invariant, here.0, c.self.invariant.few)

pub returns-in-Frame : goal.returns-in-Frame
returns-in-Frame g c = let here = subst (IsInside c.args.self.now.state 8) c.in-Frame.is c.requires in c.pointer.ensures ∙ pointer_there _ _ _ _ _ _ _ c.self.view_is c.self.invariant c.in-Frame.depth c.in-Frame.at c.args.location c.in-Frame.is here.0
