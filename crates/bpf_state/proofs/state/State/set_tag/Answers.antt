use Rattle.std.proofs.Common.{rules}
use Rattle.bpf_state.proofs.state.State.set_tag.Goals as goal

pub returns-in-Register : goal.returns-in-Register
returns-in-Register c = search rules

pub returns-in-Slot : goal.returns-in-Slot
returns-in-Slot c = search rules
