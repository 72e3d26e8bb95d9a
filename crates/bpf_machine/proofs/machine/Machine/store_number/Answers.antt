use Rattle.std.proofs.Common.{arith, ◌∙◌, ap, slice_set, get_or}
use Rattle.bpf_insn.specs.Order.{bytes_of}
use Rattle.bpf_insn.specs.Instruction.{byte_count}
use Rattle.bpf_semantics.specs.State.{empty_stack}
use Rattle.bpf_semantics.specs.Memory.{with_bytes}
use Rattle.bpf_machine.proofs.FrameLemmas.{live_is, stack_changed}
use Rattle.bpf_machine.proofs.machine.Machine.store_number.Goals as goal

pub store_number-requires-clause-live : goal.store_number-requires-clause-live
store_number-requires-clause-live g c = omega (arith, live_is _ _ _ _ _ _ _ c.self.view_is c.self.invariant, c.requires.0, c.self.invariant.few)

pub returns : goal.returns
returns g c = stack_changed _ _ _ _ _ _ _ c.self.view_is c.self.invariant c.args.depth (with_bytes (bytes_of c.args.self.now.program.order (byte_count c.args.size) c.args.x) c.args.at) c.store_number.new.self c.requires.0
    (c.store_number.ensures ∙ ap (λ order. slice_set c.self.inside.stacks c.args.depth (with_bytes (bytes_of order (byte_count c.args.size) c.args.x) c.args.at (get_or c.self.inside.stacks c.args.depth empty_stack))) (c.order-order.ensures ∙ ap (λ m. m.program.order) c.self.view_is))
