use Rattle.std.proofs.Common.{rules}
use Rattle.bpf_check.proofs.edge.calls_no_deeper.Goals as goal

pub returns-in-Some-function : goal.returns-in-Some-function
returns-in-Some-function c = search rules
