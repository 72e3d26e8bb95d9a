-- The numbers of registers.
use Rattle.std.proofs.Common.{◌<◌, arith}
use Rattle.bpf_insn.specs.Instruction.{register_number}
use Rattle.bpf_insn.specs.declared.instruction.Reg.{Reg}
use Rattle.bpf_insn.specs.declared.instruction.Reg.TheVariants.{R0, R1, R2, R3, R4, R5, R6, R7, R8, R9, R10}

pub reg_below : (r : Reg) → register_number r < 11
reg_below R0 = omega arith
reg_below R1 = omega arith
reg_below R2 = omega arith
reg_below R3 = omega arith
reg_below R4 = omega arith
reg_below R5 = omega arith
reg_below R6 = omega arith
reg_below R7 = omega arith
reg_below R8 = omega arith
reg_below R9 = omega arith
reg_below R10 = omega arith
