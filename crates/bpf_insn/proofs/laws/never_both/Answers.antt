use Rattle.bpf_insn.proofs.ImageLaws.{never_both}
use Rattle.bpf_insn.proofs.laws.never_both.Goals as goal

pub returns : goal.returns
returns c = never_both
