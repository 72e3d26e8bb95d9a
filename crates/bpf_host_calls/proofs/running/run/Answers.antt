use Rattle.std.proofs.Common.{rules}
use Rattle.bpf_host_calls.proofs.running.run.Goals as goal

pub returns-in-Ok-clause-ran : goal.returns-in-Ok-clause-ran
returns-in-Ok-clause-ran c = search rules
