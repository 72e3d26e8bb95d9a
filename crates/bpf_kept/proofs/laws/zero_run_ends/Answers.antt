use Rattle.bpf_kept.proofs.FarRuns.{zero_run_ends}
use Rattle.bpf_kept.proofs.laws.zero_run_ends.Goals as goal

pub returns : goal.returns
returns c = zero_run_ends
