use Rattle.std.proofs.Common.{rules}
use Rattle.bpf_host_calls.proofs.running.run_checked.Goals as goal

pub returns-clause-ends : goal.returns-clause-ends
returns-clause-ends c = search rules
