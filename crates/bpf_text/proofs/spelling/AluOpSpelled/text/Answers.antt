use Rattle.std.proofs.Common.{rules}
use Rattle.bpf_text.proofs.spelling.AluOpSpelled.text.Goals as goal

pub returns-in-Lsh : goal.returns-in-Lsh
returns-in-Lsh c = search rules
