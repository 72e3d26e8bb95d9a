use Rattle.std.proofs.Common.{rules}
use Rattle.bpf_num.proofs.num.Num.alu32.Goals as goal

pub returns : goal.returns
returns c = search rules
