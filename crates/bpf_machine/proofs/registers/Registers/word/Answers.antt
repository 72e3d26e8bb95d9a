use Rattle.std.proofs.Common.{◌∙◌, ap, sym, refl, None, get_or}
use Rattle.bpf_machine.proofs.RegisterLemmas.{held}
use Rattle.bpf_machine.proofs.registers.Registers.word.Goals as goal

pub returns : goal.returns
returns c = sym (ap (λ i. get_or c.args.self.now i None) (sym c.index_of-at.ensures.number) ∙ held _ _ _ c.index_of-at.result _ _ c.self.view_is c.self.invariant c.self.told c.index_of-at.ensures.few refl)
