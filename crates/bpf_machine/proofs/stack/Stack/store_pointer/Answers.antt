use Rattle.std.proofs.Common.{◌/◌, Some, ◌∙◌, ap, refl}
use Rattle.std.specs.Int.{w64, cast_unsigned}
use Rattle.std.proofs.lemmas.Int.{to_z-of_z}
use Rattle.bpf_insn.specs.Order.{bytes_of}
use Rattle.bpf_insn.specs.declared.order.Order.TheVariants.{Little}
use Rattle.bpf_semantics.specs.Memory.{with_parts}
use Rattle.bpf_machine.specs.code.PackedStack.{packed_cells}
use Rattle.bpf_machine.proofs.ByteLemmas.{front_written}
use Rattle.bpf_machine.proofs.StackLemmas.{are_slots, code_set, pointer_stored}
use Rattle.bpf_machine.proofs.stack.Stack.store_pointer.Goals as goal

pub returns : goal.returns
returns c =
    let number = c.cast_unsigned-number.result in
    ap (packed_cells _ _) (code_set c.self.inside.regions (c.args.at / 8) c.code_of.result (Some c.args.region) c.code_of.ensures)
    ∙ pointer_stored c.self.inside.bytes _ _ _ c.args.at number c.args.region c.args.off (are_slots _ _ c.self.told.1 c.self.told.2) c.requires.inside c.requires.slot c.ranges.off c.cast_unsigned-number.type_inv (c.cast_unsigned-number.ensures ∙ ap (cast_unsigned w64) (to_z-of_z w64 c.args.off c.ranges.off)) (front_written c.self.inside.bytes (bytes_of Little 8 number) c.put_number.new.bytes c.args.at 512 8 c.self.told.0 refl c.requires.inside c.put_number.ensures)
    ∙ ap (with_parts c.args.region c.args.off c.args.at) c.self.view_is
