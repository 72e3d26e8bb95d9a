use Rattle.bpf_safety.proofs.BranchLaws.{branch_keeps}
use Rattle.bpf_safety.proofs.sound.branch_keeps.Goals as goal

pub returns : goal.returns
returns c = branch_keeps c.constant_has.ensures c.refine_keeps.ensures
