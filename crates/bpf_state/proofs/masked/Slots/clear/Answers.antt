use Rattle.bpf_state.proofs.MaskedLemmas.{held-blank}
use Rattle.bpf_state.proofs.masked.Slots.clear.Goals as goal

pub returns : goal.returns
returns c = held-blank 64 c.self.inside.wholes c.self.invariant.whole_count
