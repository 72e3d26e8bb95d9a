use Rattle.bpf_semantics.proofs.RunLaw.{start_is_state}
use Rattle.bpf_semantics.proofs.machine_laws.start_is_state.Goals as goal

pub returns : goal.returns
returns c = start_is_state
