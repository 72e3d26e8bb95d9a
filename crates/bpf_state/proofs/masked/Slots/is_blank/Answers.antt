use Rattle.bpf_state.proofs.MaskedLemmas.{blank_by_masks}
use Rattle.bpf_state.proofs.masked.Slots.is_blank.Goals as goal

pub returns : goal.returns
returns c zeros = blank_by_masks _ _ _ c.self.view_is c.self.invariant (c.are_zero.ensures.0 zeros)
