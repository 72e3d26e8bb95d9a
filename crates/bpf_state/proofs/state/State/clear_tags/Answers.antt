use Rattle.std.proofs.Common.{rules}
use Rattle.bpf_state.proofs.state.State.clear_tags.Goals as goal

pub returns : goal.returns
returns c = search rules
