use Rattle.std.proofs.Common.{rules}
use Rattle.bpf_command.proofs.progress.Progress.new.Goals as goal

pub returns-clause-shown : goal.returns-clause-shown
returns-clause-shown c = search rules
