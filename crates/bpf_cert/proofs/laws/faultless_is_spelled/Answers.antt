use Rattle.bpf_cert.proofs.lines.FaultlessLines.{spelled}
use Rattle.bpf_cert.proofs.laws.faultless_is_spelled.Goals as goal

pub returns : goal.returns
returns c = spelled
