use Rattle.bpf_state.proofs.TagLemmas.{got_none}
use Rattle.bpf_state.proofs.tags.SlotTags.get.Goals as goal

pub returns-else-self : goal.returns-else-self
returns-else-self c = got_none _ _ _ c.args.index c.self.view_is c.if-self.false c.requires
