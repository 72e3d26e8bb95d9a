use Rattle.std.proofs.Common.{rules}
use Rattle.bpf_state.proofs.state.State.tightened.Goals as goal

pub returns-then-tighten : goal.returns-then-tighten
returns-then-tighten c = search rules
