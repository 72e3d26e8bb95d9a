use Rattle.std.proofs.Common.{rules}
use Rattle.bpf_state.proofs.fault.StateFault.number.Goals as goal

pub returns-in-Protected : goal.returns-in-Protected
returns-in-Protected c = search rules
