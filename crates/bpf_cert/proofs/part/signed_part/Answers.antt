use Rattle.std.proofs.Common.{rules}
use Rattle.bpf_cert.specs.Reading.{◌>>=◌}
use Rattle.bpf_cert.proofs.part.signed_part.Goals as goal

pub returns-in_err-range : goal.returns-in_err-range
unfolding ◌>>=◌
returns-in_err-range c = search rules

pub returns-in_err-low : goal.returns-in_err-low
unfolding ◌>>=◌
returns-in_err-low c = search rules

pub returns : goal.returns
unfolding ◌>>=◌
returns c = search rules
