use Rattle.std.proofs.Common.{refl, ◌/◌, None, ◌∙◌, ap, [], ◌∷◌, arith}
use Rattle.bpf_semantics.specs.Memory.{with_bytes}
use Rattle.bpf_machine.specs.code.PackedStack.{packed_cells}
use Rattle.bpf_machine.proofs.ByteLemmas.{byte_written}
use Rattle.bpf_machine.proofs.StackLemmas.{are_slots, bytes_stored, code_set}
use Rattle.bpf_machine.proofs.stack.Stack.store_byte.Goals as goal

pub returns : goal.returns
returns c =
    let bytes = c.self.inside.bytes in
    ap (packed_cells _ _) (code_set c.self.inside.regions (c.args.at / 8) 0 None refl)
    ∙ bytes_stored bytes _ _ _ c.args.at (c.args.byte ∷ []) _ (are_slots _ _ c.self.told.1 c.self.told.2) c.requires (omega arith) (omega arith) (byte_written bytes c.args.at c.args.byte (omega (arith, c.self.told.0))) c.mask_of.ensures
    ∙ ap (with_bytes (c.args.byte ∷ []) c.args.at) c.self.view_is
