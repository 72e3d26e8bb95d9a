use Rattle.bpf_follows.proofs.StandLemmas.{named_exits_stand}
use Rattle.bpf_follows.proofs.laws.named_exits_stand.Goals as goal

pub returns : goal.returns
returns c = named_exits_stand
