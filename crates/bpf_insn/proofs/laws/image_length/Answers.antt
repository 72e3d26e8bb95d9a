use Rattle.bpf_insn.proofs.WalkLemmas.{image_length}
use Rattle.bpf_insn.proofs.laws.image_length.Goals as goal

pub returns : goal.returns
returns c = image_length
