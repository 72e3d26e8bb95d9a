use Rattle.bpf_kept.proofs.FarLaw.{one_distance_is_frame}
use Rattle.bpf_kept.proofs.laws.one_distance_is_frame.Goals as goal

pub returns : goal.returns
returns c = one_distance_is_frame
