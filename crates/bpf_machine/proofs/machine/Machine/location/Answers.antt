use Rattle.std.proofs.Common.{arith, ◌∙◌, ap, Some, ◌≡◌, rules}
use Rattle.std.specs.Prelude.{◌+ℤ◌, pos}
use Rattle.std.proofs.lemmas.Int.{ints}
use Rattle.std.proofs.lemmas.Grind.{common_steps}
use Rattle.bpf_insn.specs.Instruction.{byte_count}
use Rattle.bpf_semantics.specs.State.{frame_bytes}
use Rattle.bpf_semantics.specs.Memory.{inside}
use Rattle.bpf_semantics.specs.declared.value.Value.TheVariants.{Pointer}
use Rattle.bpf_machine.proofs.FrameLemmas.{live_is, frame_location, no_frame_location, inside_is}
use Rattle.bpf_machine.proofs.machine.Machine.location.Goals as goal

pub returns-then-depth-len-clause-location : goal.returns-then-depth-len-clause-location
returns-then-depth-len-clause-location g c = no_frame_location c.args.self.now.state (byte_count c.args.size) c.in-Frame.depth c.args.off c.in-Pointer.at c.args.base (c.in-Pointer.is ∙ ap (λ r. Pointer r c.in-Pointer.at) c.in-Frame.is) (omega (arith, live_is _ _ _ _ _ _ _ c.self.view_is c.self.invariant, c.len.ensures.value))

pub returns-in-Some-in_frame-clause-location : goal.returns-in-Some-in_frame-clause-location
returns-in-Some-in_frame-clause-location g c =
    let first : Some c.in-Some-in_frame.first ≡ inside (byte_count c.args.size) frame_bytes ((c.in-Pointer.at +ℤ c.args.off) +ℤ pos frame_bytes) = first_of (search rules, grind (arith, ints), grind (arith, common_steps)) in
    frame_location c.args.self.now.state (byte_count c.args.size) c.in-Frame.depth c.args.off c.in-Pointer.at c.args.base (Some c.in-Some-in_frame.first) (c.in-Pointer.is ∙ ap (λ r. Pointer r c.in-Pointer.at) c.in-Frame.is) (omega (arith, live_is _ _ _ _ _ _ _ c.self.view_is c.self.invariant, c.len.ensures.value)) first

pub returns-in-Some-in_frame-clause-inside : goal.returns-in-Some-in_frame-clause-inside
returns-in-Some-in_frame-clause-inside g c =
    let first : inside (byte_count c.args.size) frame_bytes ((c.in-Pointer.at +ℤ c.args.off) +ℤ pos frame_bytes) ≡ Some c.in-Some-in_frame.first = first_of (search rules, grind (arith, ints), grind (arith, common_steps)) in
    (omega (arith, live_is _ _ _ _ _ _ _ c.self.view_is c.self.invariant, c.len.ensures.value), inside_is (byte_count c.args.size) 512 _ c.in-Some-in_frame.first first)
