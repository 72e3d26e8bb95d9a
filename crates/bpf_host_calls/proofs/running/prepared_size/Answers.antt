use Rattle.std.proofs.Common.{rules}
use Rattle.bpf_host_calls.proofs.running.prepared_size.Goals as goal

pub returns-clause-words : goal.returns-clause-words
returns-clause-words c = search rules
