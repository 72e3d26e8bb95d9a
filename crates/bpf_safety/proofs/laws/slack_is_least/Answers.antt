use Rattle.bpf_safety.proofs.SlackEnds.{slack_is_least}
use Rattle.bpf_safety.proofs.laws.slack_is_least.Goals as goal

pub returns : goal.returns
returns c = slack_is_least
