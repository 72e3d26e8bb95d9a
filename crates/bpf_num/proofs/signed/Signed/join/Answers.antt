use Rattle.std.proofs.Common.{rules}
use Rattle.bpf_num.proofs.signed.Signed.join.Goals as goal

pub returns : goal.returns
returns c = search rules
