use Rattle.std.proofs.Common.{rules}
use Rattle.bpf_machine.proofs.stack.Stack.store_number.Goals as goal

pub returns-then-at-from-le8 : goal.returns-then-at-from-le8
returns-then-at-from-le8 c = search rules
