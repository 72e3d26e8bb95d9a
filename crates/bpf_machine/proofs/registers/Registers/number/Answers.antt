use Rattle.std.proofs.Common.{◌∙◌, ap, sym, None}
use Rattle.std.specs.Prelude.{option_and_then, get_or}
use Rattle.bpf_semantics.specs.State.{number_in}
use Rattle.bpf_machine.specs.declared.registers.Kind.TheVariants.{Unset, Number, Context, Frame}
use Rattle.bpf_machine.proofs.RegisterLemmas.{held}
use Rattle.bpf_machine.proofs.registers.Registers.number.Goals as goal

pub returns-in-Number : goal.returns-in-Number
returns-in-Number c = sym (ap (λ i. option_and_then number_in (get_or c.args.self.now i None)) (sym c.index_of-at.ensures.number) ∙ ap (option_and_then number_in) (held _ _ _ c.index_of-at.result Number _ c.self.view_is c.self.invariant c.self.told c.index_of-at.ensures.few c.in-Number.is))

pub returns-in-Unset : goal.returns-in-Unset
returns-in-Unset c = sym (ap (λ i. option_and_then number_in (get_or c.args.self.now i None)) (sym c.index_of-at.ensures.number) ∙ ap (option_and_then number_in) (held _ _ _ c.index_of-at.result Unset _ c.self.view_is c.self.invariant c.self.told c.index_of-at.ensures.few c.in-Unset.is))

pub returns-in-Context : goal.returns-in-Context
returns-in-Context c = sym (ap (λ i. option_and_then number_in (get_or c.args.self.now i None)) (sym c.index_of-at.ensures.number) ∙ ap (option_and_then number_in) (held _ _ _ c.index_of-at.result Context _ c.self.view_is c.self.invariant c.self.told c.index_of-at.ensures.few c.in-Context.is))

pub returns-in-Frame : goal.returns-in-Frame
returns-in-Frame c = sym (ap (λ i. option_and_then number_in (get_or c.args.self.now i None)) (sym c.index_of-at.ensures.number) ∙ ap (option_and_then number_in) (held _ _ _ c.index_of-at.result (Frame c.in-Frame._depth) _ c.self.view_is c.self.invariant c.self.told c.index_of-at.ensures.few c.in-Frame.is))
