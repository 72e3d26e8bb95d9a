use Rattle.std.proofs.Common.{rules}
use Rattle.bpf_host_calls.proofs.advising.harden.Goals as goal

pub returns-in-Ok-clause-given : goal.returns-in-Ok-clause-given
returns-in-Ok-clause-given c = search rules

pub returns-in-Ok-clause-small : goal.returns-in-Ok-clause-small
returns-in-Ok-clause-small c = search rules
