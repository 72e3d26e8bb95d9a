use Rattle.std.proofs.Common.{rules}
use Rattle.bpf_cert.proofs.error.CertError.line.Goals as goal

pub returns-in-Memory : goal.returns-in-Memory
returns-in-Memory c = search rules
