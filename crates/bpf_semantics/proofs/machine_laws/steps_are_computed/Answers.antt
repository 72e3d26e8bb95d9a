use Rattle.bpf_semantics.proofs.RunLaw.{steps_are_computed}
use Rattle.bpf_semantics.proofs.machine_laws.steps_are_computed.Goals as goal

pub returns : goal.returns
returns c = steps_are_computed
