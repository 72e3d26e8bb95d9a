use Rattle.bpf_semantics.proofs.RunLaw.{runs_are_one}
use Rattle.bpf_semantics.proofs.machine_laws.runs_are_one.Goals as goal

pub returns : goal.returns
returns c = runs_are_one
