use Rattle.bpf_semantics.proofs.Head.{block_of_frame}
use Rattle.bpf_semantics.proofs.block_laws.block_of_frame.Goals as goal

pub returns : goal.returns
returns c = block_of_frame
