use Rattle.std.proofs.Common.{rules}
use Rattle.bpf_host.proofs.certifying.bpf_host_certify.Goals as goal

pub returns-clause-given : goal.returns-clause-given
returns-clause-given c = search rules

pub returns-clause-small : goal.returns-clause-small
returns-clause-small c = search rules
