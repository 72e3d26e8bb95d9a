use Rattle.std.proofs.Common.{rules}
use Rattle.bpf_state.proofs.branches.branch.Goals as goal

pub returns-in-Some-clause-edge : goal.returns-in-Some-clause-edge
returns-in-Some-clause-edge c = search rules

pub returns-in-None-clause-edge : goal.returns-in-None-clause-edge
returns-in-None-clause-edge c = search rules
