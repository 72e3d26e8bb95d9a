use Rattle.std.proofs.Common.{rules}
use Rattle.bpf_cert.specs.Reading.{pointer_in, or_else, ◌>>=◌}
use Rattle.bpf_cert.proofs.content.pointer.Goals as goal

pub returns-in-Some-signed_range : goal.returns-in-Some-signed_range
unfolding pointer_in or_else ◌>>=◌
returns-in-Some-signed_range c = search rules

pub returns-in_err-range : goal.returns-in_err-range
unfolding pointer_in or_else ◌>>=◌
returns-in_err-range c = search rules

pub returns-in_err-low : goal.returns-in_err-low
unfolding pointer_in or_else ◌>>=◌
returns-in_err-low c = search rules

pub returns : goal.returns
unfolding pointer_in or_else ◌>>=◌
returns c = search rules
