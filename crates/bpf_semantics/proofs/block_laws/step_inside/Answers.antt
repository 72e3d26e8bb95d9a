use Rattle.bpf_semantics.proofs.Law.{step_inside}
use Rattle.bpf_semantics.proofs.block_laws.step_inside.Goals as goal

pub returns : goal.returns
returns c = step_inside
