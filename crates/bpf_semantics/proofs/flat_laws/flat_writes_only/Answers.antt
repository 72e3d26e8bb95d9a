use Rattle.bpf_semantics.proofs.FlatBytesLaw.{flat_writes_only}
use Rattle.bpf_semantics.proofs.flat_laws.flat_writes_only.Goals as goal

pub returns : goal.returns
returns c = flat_writes_only
