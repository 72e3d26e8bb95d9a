-- The second operand of an instruction: what is known of it describes its value.
use Rattle.std.proofs.Common.{ℕ, List}
use Rattle.bpf_insn.specs.declared.order.Order.{Order}
use Rattle.bpf_insn.specs.declared.instruction.Operand.{Operand}
use Rattle.bpf_insn.specs.declared.instruction.Operand.TheVariants.{Imm, Reg as FromReg}
use Rattle.bpf_insn.specs.Arithmetic.{extended}
use Rattle.bpf_semantics.specs.State as machine
use Rattle.bpf_semantics.specs.Step.{operand as machine_operand}
use Rattle.bpf_num.specs.Laws.{ConstantHas}
use Rattle.bpf_state.specs.State.{AbstractState, IsAbstract, IsAbstractRegister}
use Rattle.bpf_state.specs.Fault.{operand}
use Rattle.bpf_safety.specs.Describes.{Describes, DescribesRegister}
use Rattle.bpf_safety.proofs.Constants.{extended_fits, constant_describes}

pub operand_describes : ConstantHas → (order : Order) (least most : ℕ) (x : List ℕ) (s : AbstractState) (m : machine.State) (src : Operand) → Describes order least most x s m → DescribesRegister (machine.depth m) (operand s src) (machine_operand m src)
operand_describes law order least most x s m (Imm imm) d = constant_describes law (machine.depth m) (extended imm) (extended_fits imm)
operand_describes law order least most x s m (FromReg r) d = d.registers r

pub operand_valid : ConstantHas → (s : AbstractState) (src : Operand) → IsAbstract s → IsAbstractRegister (operand s src)
operand_valid law s (Imm imm) ok = (law (extended imm) (extended_fits imm)).0
operand_valid law s (FromReg r) ok = ok.registers r
