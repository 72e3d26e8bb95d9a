use Rattle.std.proofs.Common.{rules}
use Rattle.bpf_command.proofs.request.contexts.Contexts.name.Goals as goal

pub returns-in-Word : goal.returns-in-Word
returns-in-Word c = search rules
