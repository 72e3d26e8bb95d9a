use Rattle.std.proofs.Common.{rules}
use Rattle.bpf_check.proofs.spending.slack_on.Goals as goal

pub returns : goal.returns
returns c = search rules
