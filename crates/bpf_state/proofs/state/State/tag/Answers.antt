use Rattle.std.proofs.Common.{rules}
use Rattle.bpf_state.proofs.state.State.tag.Goals as goal

pub returns-in-Slot : goal.returns-in-Slot
returns-in-Slot c = search rules
