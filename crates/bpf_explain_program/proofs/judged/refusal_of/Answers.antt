use Rattle.std.proofs.Common.{rules}
use Rattle.bpf_explain_program.proofs.judged.refusal_of.Goals as goal

pub returns-in-Err-clause-accepted : goal.returns-in-Err-clause-accepted
returns-in-Err-clause-accepted g c = search rules
