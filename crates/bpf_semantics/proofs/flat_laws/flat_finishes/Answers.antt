use Rattle.bpf_semantics.proofs.FlatLaw.{flat_finishes}
use Rattle.bpf_semantics.proofs.flat_laws.flat_finishes.Goals as goal

pub returns : goal.returns
returns c = flat_finishes
