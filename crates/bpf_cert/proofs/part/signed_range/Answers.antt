use Rattle.std.proofs.Common.{rules}
use Rattle.bpf_cert.specs.Reading.{◌>>=◌, range_in}
use Rattle.bpf_cert.specs.code.Seen.{ends_in}
use Rattle.bpf_cert.proofs.part.signed_range.Goals as goal

pub returns-in_err-low : goal.returns-in_err-low
unfolding ◌>>=◌ ends_in range_in
returns-in_err-low c = search rules

pub returns-in_err-low-2 : goal.returns-in_err-low-2
unfolding ◌>>=◌ ends_in range_in
returns-in_err-low-2 c = search rules

pub returns-in_err-high : goal.returns-in_err-high
unfolding ◌>>=◌ ends_in range_in
returns-in_err-high c = search rules

pub returns : goal.returns
unfolding ◌>>=◌ ends_in range_in
returns c = search rules
