use Rattle.bpf_semantics.proofs.StateLaw.{step_keeps_states}
use Rattle.bpf_semantics.proofs.machine_laws.step_keeps_states.Goals as goal

pub returns : goal.returns
returns c = step_keeps_states
