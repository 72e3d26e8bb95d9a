use Rattle.bpf_semantics.proofs.SlotLaw.{step_keeps_slots}
use Rattle.bpf_semantics.proofs.machine_laws.step_keeps_slots.Goals as goal

pub returns : goal.returns
returns c = step_keeps_slots
