use Rattle.bpf_safety.proofs.Calls.{leave_keeps}
use Rattle.bpf_safety.proofs.sound.leave_keeps.Goals as goal

pub returns : goal.returns
returns c = leave_keeps c.tighten_keeps.ensures
