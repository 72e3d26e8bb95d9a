use Rattle.bpf_semantics.proofs.RunLaw.{runs_keep_states}
use Rattle.bpf_semantics.proofs.machine_laws.runs_keep_states.Goals as goal

pub returns : goal.returns
returns c = runs_keep_states
