use Rattle.std.proofs.Common.{◌∙◌, ap, ap₂, slice_set}
use Rattle.std.specs.Int.{w64, cast_unsigned}
use Rattle.std.proofs.lemmas.Int.{to_z-of_z}
use Rattle.bpf_machine.specs.code.PackedRegisters.{value_of}
use Rattle.bpf_machine.proofs.RegisterLemmas.{written}
use Rattle.bpf_machine.proofs.registers.Registers.set_pointer.Goals as goal

pub returns : goal.returns
returns c = written _ _ _ c.index_of-at.result c.args.kind c.cast_unsigned.result c.self.view_is c.self.invariant c.self.told ∙ ap₂ (λ i n. slice_set c.args.self.now i (value_of c.args.kind n)) c.index_of-at.ensures.number (c.cast_unsigned.ensures ∙ ap (cast_unsigned w64) (to_z-of_z w64 c.args.off c.ranges.off))
