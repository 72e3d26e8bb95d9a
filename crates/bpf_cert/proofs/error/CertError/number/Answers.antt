use Rattle.std.proofs.Common.{rules}
use Rattle.bpf_cert.proofs.error.CertError.number.Goals as goal

pub returns-in-NotCanonical : goal.returns-in-NotCanonical
returns-in-NotCanonical c = search rules
