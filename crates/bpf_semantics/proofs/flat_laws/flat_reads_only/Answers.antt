use Rattle.bpf_semantics.proofs.FlatBytesLaw.{flat_reads_only}
use Rattle.bpf_semantics.proofs.flat_laws.flat_reads_only.Goals as goal

pub returns : goal.returns
returns c = flat_reads_only
