use Rattle.bpf_semantics.proofs.SlotLaw.{step_keeps_context}
use Rattle.bpf_semantics.proofs.machine_laws.step_keeps_context.Goals as goal

pub returns : goal.returns
returns c = step_keeps_context
