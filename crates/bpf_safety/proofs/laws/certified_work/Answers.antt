use Rattle.bpf_safety.proofs.WorkLaws.{certified_work}
use Rattle.bpf_safety.proofs.laws.certified_work.Goals as goal

pub returns : goal.returns
returns c = certified_work
