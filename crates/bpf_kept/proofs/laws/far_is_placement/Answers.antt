use Rattle.bpf_kept.proofs.FarLaw.{far_is_placement}
use Rattle.bpf_kept.proofs.laws.far_is_placement.Goals as goal

pub returns : goal.returns
returns c = far_is_placement
