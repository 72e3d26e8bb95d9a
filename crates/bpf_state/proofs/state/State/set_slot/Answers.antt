use Rattle.std.proofs.Common.{rules}
use Rattle.bpf_state.proofs.state.State.set_slot.Goals as goal

pub returns : goal.returns
returns c = search rules
