use Rattle.bpf_semantics.proofs.Head.{head_of_block}
use Rattle.bpf_semantics.proofs.block_laws.head_of_block.Goals as goal

pub returns : goal.returns
returns c = head_of_block
