use Rattle.bpf_safety.proofs.FirstLines.{version_is_free}
use Rattle.bpf_safety.proofs.laws.version_is_free.Goals as goal

pub returns : goal.returns
returns c = version_is_free
