use Rattle.std.proofs.Common.{rules}
use Rattle.bpf_num.proofs.num.Num.constant.Goals as goal

pub returns : goal.returns
returns c = search rules
