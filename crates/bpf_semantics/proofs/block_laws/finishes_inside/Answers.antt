use Rattle.bpf_semantics.proofs.Law.{finishes_inside}
use Rattle.bpf_semantics.proofs.block_laws.finishes_inside.Goals as goal

pub returns : goal.returns
returns c = finishes_inside
