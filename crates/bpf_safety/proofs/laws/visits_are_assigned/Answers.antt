use Rattle.bpf_safety.proofs.Assigned.{visits_are_assigned}
use Rattle.bpf_safety.proofs.laws.visits_are_assigned.Goals as goal

pub returns : goal.returns
returns c = visits_are_assigned
