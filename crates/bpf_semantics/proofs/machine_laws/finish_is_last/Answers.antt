use Rattle.bpf_semantics.proofs.RunLaw.{finish_is_last}
use Rattle.bpf_semantics.proofs.machine_laws.finish_is_last.Goals as goal

pub returns : goal.returns
returns c = finish_is_last
