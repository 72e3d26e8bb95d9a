use Rattle.std.proofs.Common.{rules}
use Rattle.bpf_state.proofs.transfers.load.Extension.takes_whole.Goals as goal

pub returns-in-Zero : goal.returns-in-Zero
returns-in-Zero c = search rules
