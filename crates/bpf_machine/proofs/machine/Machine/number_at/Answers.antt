use Rattle.std.proofs.Common.{arith, subst, ◌≡◌, Some, IfOk, IfErr}
use Rattle.bpf_insn.specs.Instruction.{byte_count}
use Rattle.bpf_machine.specs.code.Locations.{IsInside}
use Rattle.bpf_machine.proofs.FrameLemmas.{live_is, number_there, unreadable_there}
use Rattle.bpf_machine.proofs.machine.Machine.number_at.Goals as goal

pub number-requires-clause-live : goal.number-requires-clause-live
number-requires-clause-live g c = let here = subst (IsInside c.args.self.now.state (byte_count c.args.size)) c.in-Frame.is c.requires in omega (arith, live_is _ _ _ _ _ _ _ c.self.view_is c.self.invariant, here.0, c.self.invariant.few)

pub returns-in-Frame-clause-ok : goal.returns-in-Frame-clause-ok
returns-in-Frame-clause-ok g c =
    let here = subst (IsInside c.args.self.now.state (byte_count c.args.size)) c.in-Frame.is c.requires in
    subst (λ o. IfOk c.number.result (λ x. o ≡ Some x)) (number_there _ _ _ _ _ _ _ c.self.view_is c.self.invariant (byte_count c.args.size) c.in-Frame.depth c.in-Frame.at c.order-in-Frame.result c.args.location c.order-in-Frame.ensures c.in-Frame.is here.0) c.number.ensures.ok

pub returns-in-Frame-clause-err : goal.returns-in-Frame-clause-err
returns-in-Frame-clause-err g c =
    let here = subst (IsInside c.args.self.now.state (byte_count c.args.size)) c.in-Frame.is c.requires in
    subst (λ o. IfErr c.number.result (λ reason. o ≡ Some reason)) (unreadable_there _ _ _ _ _ _ _ c.self.view_is c.self.invariant (byte_count c.args.size) c.in-Frame.depth c.in-Frame.at c.args.location c.in-Frame.is here.0) c.number.ensures.err
