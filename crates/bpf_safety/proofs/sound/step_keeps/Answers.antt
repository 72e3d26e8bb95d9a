use Rattle.bpf_safety.proofs.StepLaws.{step_keeps}
use Rattle.bpf_safety.proofs.sound.step_keeps.Goals as goal

pub returns : goal.returns
returns c = step_keeps c.constant_has.ensures c.constant_is.ensures c.tighten_keeps.ensures c.alu_keeps.ensures c.neg_keeps.ensures c.movsx_keeps.ensures c.end_keeps.ensures
