use Rattle.std.proofs.Common.{rules}
use Rattle.bpf_num.proofs.num.Num.extended_to.Goals as goal

pub returns-in_ok-extended-in-W32 : goal.returns-in_ok-extended-in-W32
returns-in_ok-extended-in-W32 c = search rules
