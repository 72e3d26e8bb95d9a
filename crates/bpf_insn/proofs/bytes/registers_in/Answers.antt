use Rattle.std.proofs.Common.{rules}
use Rattle.bpf_insn.proofs.bytes.registers_in.Goals as goal

pub returns-in-Big-clause-dst : goal.returns-in-Big-clause-dst
returns-in-Big-clause-dst c = search rules

pub returns-in-Big-clause-src : goal.returns-in-Big-clause-src
returns-in-Big-clause-src c = search rules
