use Rattle.bpf_state.proofs.MaskedLemmas.{count_slots}
use Rattle.bpf_state.proofs.masked.Slots.valid.Goals as goal

pub returns : goal.returns
returns c = count_slots _ _ _ c.self.view_is c.self.invariant
