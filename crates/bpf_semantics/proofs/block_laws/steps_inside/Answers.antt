use Rattle.bpf_semantics.proofs.Law.{steps_inside}
use Rattle.bpf_semantics.proofs.block_laws.steps_inside.Goals as goal

pub returns : goal.returns
returns c = steps_inside
