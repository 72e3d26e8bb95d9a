use Rattle.bpf_state.proofs.TagLemmas.{set_none}
use Rattle.bpf_state.proofs.tags.SlotTags.set.Goals as goal

pub returns-in-None : goal.returns-in-None
returns-in-None c = set_none _ _ _ c.args.index c.args.tag c.self.view_is c.if-self.false c.in-None.is c.requires
