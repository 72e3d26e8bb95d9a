use Rattle.std.proofs.Common.{◌∙◌, ap, sym, subst, Some, slice_set, get_or}
use Rattle.std.specs.Prelude.{IsSome, option_and_then, set, None}
use Rattle.bpf_semantics.specs.State.{number_in}
use Rattle.bpf_semantics.specs.declared.value.Value.TheVariants.{Number as ANumber}
use Rattle.bpf_machine.proofs.RegisterLemmas.{packed_updated}
use Rattle.bpf_machine.proofs.registers.Registers.update.Goals as goal

pub returns : goal.returns
returns c =
    packed_updated _ _ c.index_of-at.result c.args.x (subst (λ rs. IsSome (option_and_then number_in (get_or rs c.index_of-at.result None))) (sym c.self.view_is) (subst (λ i. IsSome (option_and_then number_in (get_or c.args.self.now i None))) (sym c.index_of-at.ensures.number) c.requires))
    ∙ ap (λ rs. set rs c.index_of-at.result (Some (ANumber c.args.x))) c.self.view_is
    ∙ ap (λ i. slice_set c.args.self.now i (Some (ANumber c.args.x))) c.index_of-at.ensures.number
