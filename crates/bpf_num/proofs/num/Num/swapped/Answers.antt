use Rattle.std.proofs.Common.{rules}
use Rattle.bpf_num.proofs.num.Num.swapped.Goals as goal

pub returns-in-Big-Be : goal.returns-in-Big-Be
returns-in-Big-Be c = search rules
