use Rattle.bpf_state.proofs.TagLemmas.{count_tags}
use Rattle.bpf_state.proofs.tags.SlotTags.valid.Goals as goal

pub returns : goal.returns
returns c = count_tags _ _ _ c.self.view_is c.self.invariant
