use Rattle.std.proofs.Common.{◌∙◌, ap, sym, ◌%◌, ◌/◌, [], ◌∷◌}
use Rattle.bpf_semantics.specs.Stuck.{first_unreadable}
use Rattle.bpf_machine.specs.code.PackedStack.{pointer_cell, slot_number}
use Rattle.bpf_machine.proofs.StackLemmas.{byte_held, byte_not_held, code_found}
use Rattle.bpf_machine.proofs.stack.Stack.byte.Goals as goal

pub returns-then-self-at-eq1-clause-ok : goal.returns-then-self-at-eq1-clause-ok
returns-then-self-at-eq1-clause-ok c = byte_held _ _ _ _ c.args.at c.self.view_is c.requires c.if-self-at-eq1.true

pub returns-in-Some-clause-err : goal.returns-in-Some-clause-err
returns-in-Some-clause-err c = ap (λ cell. first_unreadable (cell ∷ [])) (byte_not_held _ _ _ _ c.args.at c.self.view_is c.requires c.if-self-at-eq1.false ∙ ap (pointer_cell (c.args.at % 8) (slot_number c.self.inside.bytes (c.args.at / 8))) (code_found c.self.inside.regions (c.args.at / 8) ∙ sym c.region_of.ensures ∙ c.in-Some.is))

pub returns-in-None-clause-err : goal.returns-in-None-clause-err
returns-in-None-clause-err c = ap (λ cell. first_unreadable (cell ∷ [])) (byte_not_held _ _ _ _ c.args.at c.self.view_is c.requires c.if-self-at-eq1.false ∙ ap (pointer_cell (c.args.at % 8) (slot_number c.self.inside.bytes (c.args.at / 8))) (code_found c.self.inside.regions (c.args.at / 8) ∙ sym c.region_of.ensures ∙ c.in-None.is))
