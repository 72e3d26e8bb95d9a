use Rattle.bpf_kept.proofs.ZeroLaw.{zero_step_is_step}
use Rattle.bpf_kept.proofs.laws.zero_step_is_step.Goals as goal

pub returns : goal.returns
returns c = zero_step_is_step
