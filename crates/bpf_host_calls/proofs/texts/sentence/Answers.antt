use Rattle.std.proofs.Common.{rules}
use Rattle.bpf_host_calls.proofs.texts.sentence.Goals as goal

pub returns-in-Some-clause-numbered : goal.returns-in-Some-clause-numbered
returns-in-Some-clause-numbered c = search rules
