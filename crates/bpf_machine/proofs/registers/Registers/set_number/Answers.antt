use Rattle.std.proofs.Common.{◌∙◌, ap, Some, slice_set}
use Rattle.bpf_semantics.specs.declared.value.Value.TheVariants.{Number as ANumber}
use Rattle.bpf_machine.specs.declared.registers.Kind.TheVariants.{Number}
use Rattle.bpf_machine.proofs.RegisterLemmas.{written}
use Rattle.bpf_machine.proofs.registers.Registers.set_number.Goals as goal

pub returns : goal.returns
returns c = written _ _ _ c.index_of-at.result Number c.args.x c.self.view_is c.self.invariant c.self.told ∙ ap (λ i. slice_set c.args.self.now i (Some (ANumber c.args.x))) c.index_of-at.ensures.number
