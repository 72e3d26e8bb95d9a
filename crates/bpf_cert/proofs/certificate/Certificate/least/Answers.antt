use Rattle.std.proofs.Common.{rules}
use Rattle.bpf_cert.proofs.certificate.Certificate.least.Goals as goal

pub returns : goal.returns
returns c = search rules
