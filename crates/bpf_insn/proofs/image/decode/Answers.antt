use Rattle.std.proofs.Common.{rules}
use Rattle.bpf_insn.proofs.image.decode.Goals as goal

pub returns-in-Ok-to_program-clause-ok : goal.returns-in-Ok-to_program-clause-ok
returns-in-Ok-to_program-clause-ok c = search rules

pub returns-in-Ok-to_program-clause-accepts : goal.returns-in-Ok-to_program-clause-accepts
returns-in-Ok-to_program-clause-accepts c = search rules

pub returns-in-Err-clause-err : goal.returns-in-Err-clause-err
returns-in-Err-clause-err c = search rules

pub returns-in-Err-clause-accepts : goal.returns-in-Err-clause-accepts
returns-in-Err-clause-accepts c = search rules
