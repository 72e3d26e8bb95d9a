use Rattle.std.proofs.Common.{rules}
use Rattle.bpf_state.proofs.known.Area.is_frame.Goals as goal

pub returns-in-Frame : goal.returns-in-Frame
returns-in-Frame c = search rules
