use Rattle.std.proofs.Common.{rules}
use Rattle.bpf_state.proofs.work.Work.transfer_counted.Goals as goal

pub returns-clause-counts : goal.returns-clause-counts
returns-clause-counts c = search rules
