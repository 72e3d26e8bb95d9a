use Rattle.std.proofs.Common.{◌∙◌, ap, None, slice_set, get_or, rules}
use Rattle.std.specs.Prelude.{set}
use Rattle.bpf_insn.specs.declared.instruction.Width.TheVariants.{W64}
use Rattle.bpf_insn.specs.declared.instruction.AluOp.TheVariants.{Add}
use Rattle.bpf_semantics.specs.Step.{alu_result}
use Rattle.bpf_semantics.specs.declared.value.Value.TheVariants.{Number as ANumber}
use Rattle.bpf_machine.specs.code.PackedRegisters.{packed_registers}
use Rattle.bpf_machine.proofs.RegisterLemmas.{packed_added}
use Rattle.bpf_machine.proofs.registers.Registers.add.Goals as goal

pub returns : goal.returns
returns c =
    ap (λ x. packed_registers c.self.inside.kinds (set c.self.inside.numbers c.index_of-at.result x)) c.compute.ensures
    ∙ packed_added _ _ c.index_of-at.result c.args.x (search rules)
    ∙ ap (λ rs. set rs c.index_of-at.result (alu_result W64 Add (get_or rs c.index_of-at.result None) (ANumber c.args.x))) c.self.view_is
    ∙ ap (λ i. slice_set c.args.self.now i (alu_result W64 Add (get_or c.args.self.now i None) (ANumber c.args.x))) c.index_of-at.ensures.number
