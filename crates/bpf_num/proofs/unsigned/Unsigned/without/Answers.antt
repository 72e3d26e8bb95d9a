use Rattle.std.proofs.Common.{rules}
use Rattle.bpf_num.proofs.unsigned.Unsigned.without.Goals as goal

pub returns-in-false-true : goal.returns-in-false-true
returns-in-false-true c = search rules
