use Rattle.std.proofs.Common.{rules}
use Rattle.bpf_explain.proofs.program.explain.Goals as goal

pub returns-clause-accepted : goal.returns-clause-accepted
returns-clause-accepted g c = search rules
