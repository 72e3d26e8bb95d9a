use Rattle.bpf_insn.proofs.ImageLaws.{image_is_injective}
use Rattle.bpf_insn.proofs.laws.image_is_injective.Goals as goal

pub returns : goal.returns
returns c = image_is_injective
