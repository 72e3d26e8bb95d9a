use Rattle.std.proofs.Common.{rules}
use Rattle.bpf_host.proofs.bpf_host_infer.Goals as goal

pub returns-clause-given : goal.returns-clause-given
returns-clause-given c = search rules

pub returns-clause-small : goal.returns-clause-small
returns-clause-small c = search rules

pub returns-clause-call : goal.returns-clause-call
returns-clause-call c = search rules
