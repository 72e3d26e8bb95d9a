use Rattle.std.proofs.Common.{rules}
use Rattle.bpf_num.proofs.num.Num.where_fails.Goals as goal

pub returns-in-Gt : goal.returns-in-Gt
returns-in-Gt c = search rules
