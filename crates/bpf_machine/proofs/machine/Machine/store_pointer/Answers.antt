use Rattle.std.proofs.Common.{arith, ◌∙◌, ap, slice_set, get_or}
use Rattle.std.specs.Int.{w64}
use Rattle.std.proofs.lemmas.Int.{to_z-of_z}
use Rattle.bpf_semantics.specs.State.{empty_stack}
use Rattle.bpf_semantics.specs.Memory.{with_parts}
use Rattle.bpf_machine.proofs.FrameLemmas.{live_is, stack_changed}
use Rattle.bpf_machine.proofs.machine.Machine.store_pointer.Goals as goal

pub store_pointer-requires-clause-live : goal.store_pointer-requires-clause-live
store_pointer-requires-clause-live g c = omega (arith, live_is _ _ _ _ _ _ _ c.self.view_is c.self.invariant, c.requires.inside.0, c.self.invariant.few)

pub returns : goal.returns
returns g c = stack_changed _ _ _ _ _ _ _ c.self.view_is c.self.invariant c.args.depth (with_parts c.args.region c.args.off c.args.at) c.store_pointer.new.self c.requires.inside.0 (c.store_pointer.ensures ∙ ap (λ off. slice_set c.self.inside.stacks c.args.depth (with_parts c.args.region off c.args.at (get_or c.self.inside.stacks c.args.depth empty_stack))) (to_z-of_z w64 c.args.off c.ranges.off))
