use Rattle.std.proofs.Common.{rules}
use Rattle.bpf_machine.proofs.stack.region_of.Goals as goal

pub returns-in_default : goal.returns-in_default
returns-in_default c = search rules
