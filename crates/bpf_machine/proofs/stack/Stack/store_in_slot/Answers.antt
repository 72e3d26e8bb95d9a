use Rattle.std.proofs.Common.{refl, ◌/◌, None, ◌∙◌, ap, sym, subst, ◌≡◌, ◌%◌, ℕ, List, length, arith}
use Rattle.bpf_insn.specs.Order.{bytes_of}
use Rattle.bpf_insn.specs.Instruction.{byte_count}
use Rattle.bpf_semantics.specs.Memory.{with_bytes}
use Rattle.bpf_machine.specs.code.PackedStack.{IsMask, packed_cells}
use Rattle.bpf_insn.proofs.ByteLemmas.{bytes_long}
use Rattle.bpf_machine.proofs.ByteLemmas.{front_written, some_bytes}
use Rattle.bpf_machine.proofs.StackLemmas.{are_slots, bytes_stored, code_set}
use Rattle.bpf_machine.proofs.stack.Stack.store_in_slot.Goals as goal

pub returns : goal.returns
returns c =
    let k : ℕ = byte_count c.args.size in
    let bs : List ℕ = bytes_of c.args.order k c.args.x in
    let n : length bs ≡ k = bytes_long c.args.order k c.args.x in
    let some = some_bytes c.args.size in
    let mask : IsMask (c.args.at % 8) (length bs) c.mask_of.result = subst (λ n. IsMask (c.args.at % 8) n c.mask_of.result) (c.from.ensures ∙ c.bytes.ensures ∙ sym n) c.mask_of.ensures in
    ap (packed_cells _ _) (code_set c.self.inside.regions (c.args.at / 8) 0 None refl)
    ∙ bytes_stored c.self.inside.bytes _ _ _ c.args.at bs _ (are_slots _ _ c.self.told.1 c.self.told.2) c.requires.inside (omega (arith, n)) (omega (arith, n)) (front_written c.self.inside.bytes bs c.put_number.new.bytes c.args.at 512 k c.self.told.0 n (omega arith) c.put_number.ensures) mask
    ∙ ap (with_bytes bs c.args.at) c.self.view_is
