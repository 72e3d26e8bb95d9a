use Rattle.std.proofs.Common.{rules}
use Rattle.bpf_check.proofs.checked.Checked.most.Goals as goal

pub returns : goal.returns
returns g c = search rules
