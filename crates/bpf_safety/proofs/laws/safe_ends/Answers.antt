use Rattle.bpf_safety.proofs.Runs.{safe_ends}
use Rattle.bpf_safety.proofs.laws.safe_ends.Goals as goal

pub returns : goal.returns
returns c = safe_ends c.finish_is_last.ensures
