use Rattle.bpf_state.proofs.CoverLemmas.{same_masks, same_covers}
use Rattle.bpf_state.proofs.masked.Slots.cover.Goals as goal

pub returns : goal.returns
returns c = same_covers _ _ _ _ _ (same_masks _ _ _ c.self.view_is c.self.invariant) (same_masks _ _ _ c.others.view_is c.others.invariant) c.covers.ensures
