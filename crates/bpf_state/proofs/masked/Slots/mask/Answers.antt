use Rattle.bpf_state.proofs.MaskedLemmas.{got_mask}
use Rattle.bpf_state.proofs.masked.Slots.mask.Goals as goal

pub returns : goal.returns
returns c = got_mask _ _ _ c.args.index c.self.view_is c.self.invariant c.requires
