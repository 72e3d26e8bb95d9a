use Rattle.std.proofs.Common.{◌∙◌, ap, ap₂, sym, refl, None, slice_set, get_or}
use Rattle.bpf_machine.proofs.RegisterLemmas.{held, written}
use Rattle.bpf_machine.proofs.registers.Registers.copy.Goals as goal

pub returns : goal.returns
returns c =
    written _ _ _ c.index_of-there.result _ _ c.self.view_is c.self.invariant c.self.told
    ∙ ap₂ (λ i v. slice_set c.args.self.now i v) c.index_of-there.ensures.number (sym (held _ _ _ c.index_of-here.result _ _ c.self.view_is c.self.invariant c.self.told c.index_of-here.ensures.few refl) ∙ ap (λ i. get_or c.args.self.now i None) c.index_of-here.ensures.number)
