use Rattle.bpf_semantics.proofs.FlatRegistersLaw.{flat_reads_registers}
use Rattle.bpf_semantics.proofs.flat_laws.flat_reads_registers.Goals as goal

pub returns : goal.returns
returns c = flat_reads_registers
