use Rattle.bpf_safety.proofs.Runs.{safe_has_no_fault}
use Rattle.bpf_safety.proofs.laws.safe_has_no_fault.Goals as goal

pub returns : goal.returns
returns c = safe_has_no_fault c.stuck_has_reason.ensures
