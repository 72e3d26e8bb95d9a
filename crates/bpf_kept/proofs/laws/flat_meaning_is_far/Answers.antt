use Rattle.bpf_kept.proofs.FarRuns.{flat_meaning_is_far}
use Rattle.bpf_kept.proofs.laws.flat_meaning_is_far.Goals as goal

pub returns : goal.returns
returns c = flat_meaning_is_far
