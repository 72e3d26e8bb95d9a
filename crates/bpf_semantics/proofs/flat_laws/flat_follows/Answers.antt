use Rattle.bpf_semantics.proofs.FlatLaw.{flat_follows}
use Rattle.bpf_semantics.proofs.flat_laws.flat_follows.Goals as goal

pub returns : goal.returns
returns c = flat_follows
