use Rattle.bpf_safety.proofs.NotStuck.{not_stuck_inside}
use Rattle.bpf_safety.proofs.sound.not_stuck_inside.Goals as goal

pub returns : goal.returns
returns c = not_stuck_inside c.constant_has.ensures c.tighten_keeps.ensures
