use Rattle.std.proofs.Common.{◌∙◌, ap, sym, None, Some, get_or}
use Rattle.std.specs.Int.{w64}
use Rattle.std.proofs.lemmas.Int.{to_z-of_z}
use Rattle.bpf_semantics.specs.declared.value.Value.TheVariants.{Pointer}
use Rattle.bpf_semantics.specs.declared.value.Region.TheVariants.{Context as InContext, Frame as InFrame}
use Rattle.bpf_machine.specs.declared.registers.Kind.TheVariants.{Unset, Number, Context, Frame}
use Rattle.bpf_machine.proofs.RegisterLemmas.{held}
use Rattle.bpf_machine.proofs.registers.Registers.value.Goals as goal

pub returns-in-Number : goal.returns-in-Number
returns-in-Number c = sym (ap (λ i. get_or c.args.self.now i None) (sym c.index_of-at.ensures.number) ∙ held _ _ _ c.index_of-at.result Number _ c.self.view_is c.self.invariant c.self.told c.index_of-at.ensures.few c.in-Number.is)

pub returns-in-Unset : goal.returns-in-Unset
returns-in-Unset c = sym (ap (λ i. get_or c.args.self.now i None) (sym c.index_of-at.ensures.number) ∙ held _ _ _ c.index_of-at.result Unset _ c.self.view_is c.self.invariant c.self.told c.index_of-at.ensures.few c.in-Unset.is)

pub returns-in-Context : goal.returns-in-Context
returns-in-Context c = sym (ap (λ i. get_or c.args.self.now i None) (sym c.index_of-at.ensures.number) ∙ held _ _ _ c.index_of-at.result Context _ c.self.view_is c.self.invariant c.self.told c.index_of-at.ensures.few c.in-Context.is ∙ ap (λ off. Some (Pointer InContext off)) (sym c.cast_signed.ensures ∙ sym (to_z-of_z w64 c.cast_signed.result (record { sfits = c.cast_signed.type_inv }))))

pub returns-in-Frame : goal.returns-in-Frame
returns-in-Frame c = sym (ap (λ i. get_or c.args.self.now i None) (sym c.index_of-at.ensures.number) ∙ held _ _ _ c.index_of-at.result (Frame c.in-Frame.depth) _ c.self.view_is c.self.invariant c.self.told c.index_of-at.ensures.few c.in-Frame.is ∙ ap (λ off. Some (Pointer (InFrame c.in-Frame.depth) off)) (sym c.cast_signed-in-Frame.ensures ∙ sym (to_z-of_z w64 c.cast_signed-in-Frame.result (record { sfits = c.cast_signed-in-Frame.type_inv }))))
