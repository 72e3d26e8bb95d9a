use Rattle.bpf_safety.proofs.FirstLines.{ranges_inside}
use Rattle.bpf_safety.proofs.laws.ranges_inside.Goals as goal

pub returns : goal.returns
returns c = ranges_inside
