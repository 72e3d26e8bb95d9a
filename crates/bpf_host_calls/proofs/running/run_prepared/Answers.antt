use Rattle.std.proofs.Common.{rules}
use Rattle.bpf_host_calls.proofs.running.run_prepared.Goals as goal

pub returns-clause-ran : goal.returns-clause-ran
returns-clause-ran c = search rules
