use Rattle.std.proofs.Common.{rules}
use Rattle.bpf_state.proofs.calls.leave.Goals as goal

pub returns-in-None-clause-kept : goal.returns-in-None-clause-kept
returns-in-None-clause-kept c = search rules
