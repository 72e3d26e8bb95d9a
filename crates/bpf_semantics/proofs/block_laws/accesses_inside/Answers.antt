use Rattle.bpf_semantics.proofs.AccessLaw.{accesses_inside}
use Rattle.bpf_semantics.proofs.block_laws.accesses_inside.Goals as goal

pub returns : goal.returns
returns c = accesses_inside
