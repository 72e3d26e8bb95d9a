use Rattle.bpf_kept.proofs.FarRuns.{near_and_wide_are_far}
use Rattle.bpf_kept.proofs.laws.near_and_wide_are_far.Goals as goal

pub returns : goal.returns
returns c = near_and_wide_are_far
