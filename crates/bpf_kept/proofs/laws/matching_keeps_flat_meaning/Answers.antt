use Rattle.bpf_kept.proofs.Law.{matching_keeps_flat_meaning}
use Rattle.bpf_kept.proofs.laws.matching_keeps_flat_meaning.Goals as goal

pub returns : goal.returns
returns c = matching_keeps_flat_meaning
