use Rattle.std.proofs.Common.{◌∙◌, ap, sym, ◌%◌, ◌/◌, inl, inr, Some, arith}
use Rattle.std.specs.Int.{w64, cast_signed}
use Rattle.std.proofs.lemmas.Int.{to_z-of_z}
use Rattle.bpf_semantics.specs.Memory.{pointer_in}
use Rattle.bpf_semantics.specs.declared.value.Value.TheVariants.{Pointer}
use Rattle.bpf_machine.specs.code.PackedStack.{pointer_cell, slot_number}
use Rattle.bpf_machine.proofs.stack.Stack.pointer.Goals.{then-at-ne0-via-then-at-ne0, then-at-ne0-via-else-at-ne0+then-self-at-eq1}
use Rattle.bpf_machine.proofs.StackLemmas.{code_found, no_pointer, number_read, slot_pointer}
use Rattle.bpf_machine.proofs.stack.Stack.pointer.Goals as goal

pub returns-then-at-ne0 : goal.returns-then-at-ne0
returns-then-at-ne0 c = elim c.then-at-ne0.branch [
  | then-at-ne0-via-then-at-ne0 w ↦ sym (no_pointer _ _ _ _ c.args.at c.self.view_is c.requires (inl w.if-at-ne0.true))
  | then-at-ne0-via-else-at-ne0+then-self-at-eq1 w ↦ sym (no_pointer _ _ _ _ c.args.at c.self.view_is c.requires (inr w.if-self-at-eq1.true))
]

pub returns-in-Some : goal.returns-in-Some
returns-in-Some c = sym
    (slot_pointer _ _ _ _ c.args.at c.self.view_is c.requires c.if-at-ne0.false c.if-self-at-eq1.false
    ∙ ap (λ region. pointer_in (pointer_cell (c.args.at % 8) (slot_number c.self.inside.bytes (c.args.at / 8)) region)) (code_found c.self.inside.regions (c.args.at / 8) ∙ sym c.region_of.ensures ∙ c.in-Some.is)
    ∙ ap (λ number. Some (Pointer c.in-Some.region (cast_signed w64 number))) (sym (c.number_in-number.ensures.number ∙ number_read c.self.inside.bytes c.args.at _ c.if-at-ne0.false (omega arith)))
    ∙ ap (λ off. Some (Pointer c.in-Some.region off)) (sym c.cast_signed.ensures ∙ sym (to_z-of_z w64 c.cast_signed.result (record { sfits = c.cast_signed.type_inv }))))

pub returns-in-None : goal.returns-in-None
returns-in-None c = sym
    (slot_pointer _ _ _ _ c.args.at c.self.view_is c.requires c.if-at-ne0.false c.if-self-at-eq1.false
    ∙ ap (λ region. pointer_in (pointer_cell (c.args.at % 8) (slot_number c.self.inside.bytes (c.args.at / 8)) region)) (code_found c.self.inside.regions (c.args.at / 8) ∙ sym c.region_of.ensures ∙ c.in-None.is))
