use Rattle.std.proofs.Common.{rules}
use Rattle.bpf_state.proofs.transfers.exit.Goals as goal

pub returns-in-Ptr-clause-outcome : goal.returns-in-Ptr-clause-outcome
returns-in-Ptr-clause-outcome c = search rules
