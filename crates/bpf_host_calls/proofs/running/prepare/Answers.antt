use Rattle.std.proofs.Common.{rules}
use Rattle.bpf_host_calls.proofs.running.prepare.Goals as goal

pub returns-clause-prepared : goal.returns-clause-prepared
returns-clause-prepared c = search rules
