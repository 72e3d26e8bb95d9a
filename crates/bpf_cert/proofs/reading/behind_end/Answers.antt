use Rattle.std.proofs.Common.{rules}
use Rattle.bpf_cert.proofs.reading.behind_end.Goals as goal

pub returns-in-Failed-true : goal.returns-in-Failed-true
returns-in-Failed-true c = search rules
