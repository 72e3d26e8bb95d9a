use Rattle.std.proofs.Common.{rules}
use Rattle.bpf_cert.proofs.certificate.Certificate.new.Goals as goal

pub returns-then-not-is_limited-clause-err : goal.returns-then-not-is_limited-clause-err
returns-then-not-is_limited-clause-err c = search rules
