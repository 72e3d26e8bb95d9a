use Rattle.std.proofs.Common.{rules}
use Rattle.bpf_state.proofs.known.SlotState.entails.Goals as goal

pub returns-in-Spilled-self : goal.returns-in-Spilled-self
returns-in-Spilled-self c = search rules
