use Rattle.std.proofs.Common.{rules}
use Rattle.bpf_command.proofs.commands.run.ran_given.Goals as goal

pub returns-in-Lines-clause-ok : goal.returns-in-Lines-clause-ok
returns-in-Lines-clause-ok g c = search rules

pub returns-in-Lines-clause-err : goal.returns-in-Lines-clause-err
returns-in-Lines-clause-err g c = search rules
