use Rattle.bpf_semantics.proofs.StuckLaw.{stuck_has_reason}
use Rattle.bpf_semantics.proofs.machine_laws.stuck_has_reason.Goals as goal

pub returns : goal.returns
returns c = stuck_has_reason
