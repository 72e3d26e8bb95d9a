use Rattle.std.proofs.Common.{rules}
use Rattle.bpf_cert.specs.Reading.{◌>>=◌}
use Rattle.bpf_cert.specs.code.Seen.{ends_in}
use Rattle.bpf_cert.proofs.part.ends.Goals as goal

pub returns-in_err-low : goal.returns-in_err-low
unfolding ◌>>=◌ ends_in
returns-in_err-low c = search rules

pub returns-in_err-high : goal.returns-in_err-high
unfolding ◌>>=◌ ends_in
returns-in_err-high c = search rules

pub returns : goal.returns
unfolding ◌>>=◌ ends_in
returns c = search rules
