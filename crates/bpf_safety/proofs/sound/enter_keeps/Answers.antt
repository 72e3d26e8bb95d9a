use Rattle.bpf_safety.proofs.Calls.{enter_keeps}
use Rattle.bpf_safety.proofs.sound.enter_keeps.Goals as goal

pub returns : goal.returns
returns c = enter_keeps
