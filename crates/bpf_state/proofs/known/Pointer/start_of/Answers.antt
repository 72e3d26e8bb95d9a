use Rattle.std.proofs.Common.{rules}
use Rattle.bpf_state.proofs.known.Pointer.start_of.Goals as goal

pub returns : goal.returns
returns c = search rules
