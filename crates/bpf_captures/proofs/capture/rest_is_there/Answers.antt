use Rattle.bpf_captures.proofs.CaptureLemmas.{rest_is_there}
use Rattle.bpf_captures.proofs.capture.rest_is_there.Goals as goal

pub returns : goal.returns
returns c = rest_is_there
