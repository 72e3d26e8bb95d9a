use Rattle.bpf_semantics.proofs.Law.{state_inside}
use Rattle.bpf_semantics.proofs.block_laws.state_inside.Goals as goal

pub returns : goal.returns
returns c = state_inside
