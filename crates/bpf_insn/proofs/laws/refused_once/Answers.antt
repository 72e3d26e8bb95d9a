use Rattle.bpf_insn.proofs.ImageLaws.{refused_once}
use Rattle.bpf_insn.proofs.laws.refused_once.Goals as goal

pub returns : goal.returns
returns c = refused_once
