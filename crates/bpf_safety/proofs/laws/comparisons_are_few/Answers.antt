use Rattle.bpf_safety.proofs.WorkLaws.{comparisons_are_few}
use Rattle.bpf_safety.proofs.laws.comparisons_are_few.Goals as goal

pub returns : goal.returns
returns c = comparisons_are_few
