use Rattle.bpf_state.proofs.MaskedLemmas.{got_whole, got_bytes}
use Rattle.bpf_state.proofs.masked.Slots.get.Goals as goal

pub returns-in-Word : goal.returns-in-Word
returns-in-Word c = got_whole _ _ _ c.args.index _ _ c.self.view_is c.self.invariant c.requires c.if-mask.true c.in-Word.is

pub returns-in-Ptr : goal.returns-in-Ptr
returns-in-Ptr c = got_whole _ _ _ c.args.index _ _ c.self.view_is c.self.invariant c.requires c.if-mask.true c.in-Ptr.is

pub returns-else-mask : goal.returns-else-mask
returns-else-mask c = got_bytes _ _ _ c.args.index c.self.view_is c.self.invariant c.requires c.if-mask.false
