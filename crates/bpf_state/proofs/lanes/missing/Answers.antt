use Rattle.bpf_state.proofs.LaneLemmas.{lacks}
use Rattle.bpf_state.proofs.lanes.missing.Goals as goal

pub returns : goal.returns
returns c = lacks c.args.want c.args.have
