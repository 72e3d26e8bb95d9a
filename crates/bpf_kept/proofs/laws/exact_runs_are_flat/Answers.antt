use Rattle.bpf_kept.proofs.ExactLaw.{exact_runs_are_flat}
use Rattle.bpf_kept.proofs.laws.exact_runs_are_flat.Goals as goal

pub returns : goal.returns
returns c = exact_runs_are_flat
