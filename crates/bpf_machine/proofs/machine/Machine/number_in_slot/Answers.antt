use Rattle.std.proofs.Common.{arith, subst, ◌≡◌, Some}
use Rattle.std.specs.Prelude.{IfSome}
use Rattle.bpf_insn.specs.Instruction.{byte_count}
use Rattle.bpf_machine.specs.code.Locations.{IsInside}
use Rattle.bpf_machine.proofs.FrameLemmas.{live_is, number_there}
use Rattle.bpf_machine.proofs.machine.Machine.number_in_slot.Goals as goal

pub number_in_slot-requires-clause-live : goal.number_in_slot-requires-clause-live
number_in_slot-requires-clause-live g c = let here = subst (IsInside c.args.self.now.state (byte_count c.args.size)) c.in-Frame.is c.requires in omega (arith, live_is _ _ _ _ _ _ _ c.self.view_is c.self.invariant, here.0, c.self.invariant.few)

pub returns-in-Frame : goal.returns-in-Frame
returns-in-Frame g c =
    let here = subst (IsInside c.args.self.now.state (byte_count c.args.size)) c.in-Frame.is c.requires in
    subst (λ o. IfSome c.number_in_slot.result (λ x. o ≡ Some x)) (number_there _ _ _ _ _ _ _ c.self.view_is c.self.invariant (byte_count c.args.size) c.in-Frame.depth c.in-Frame.at c.order-in-Frame.result c.args.location c.order-in-Frame.ensures c.in-Frame.is here.0) c.number_in_slot.ensures
