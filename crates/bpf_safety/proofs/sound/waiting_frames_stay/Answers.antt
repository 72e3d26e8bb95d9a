use Rattle.bpf_safety.proofs.Waiting.{waiting_frames_stay}
use Rattle.bpf_safety.proofs.sound.waiting_frames_stay.Goals as goal

pub returns : goal.returns
returns c = waiting_frames_stay
