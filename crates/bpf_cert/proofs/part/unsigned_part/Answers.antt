use Rattle.std.proofs.Common.{rules}
use Rattle.bpf_cert.specs.Reading.{◌>>=◌, range_in, numeral_in}
use Rattle.bpf_cert.specs.code.Seen.{ends_in}
use Rattle.bpf_cert.proofs.part.unsigned_part.Goals as goal

pub returns-in_err-range : goal.returns-in_err-range
unfolding ◌>>=◌ ends_in range_in numeral_in
returns-in_err-range c = search rules

pub returns-in_err-low : goal.returns-in_err-low
unfolding ◌>>=◌ ends_in range_in numeral_in
returns-in_err-low c = search rules

pub returns-then-is_numeral-2 : goal.returns-then-is_numeral-2
unfolding ◌>>=◌ ends_in range_in numeral_in
returns-then-is_numeral-2 c = search rules

pub returns-else-is_numeral : goal.returns-else-is_numeral
unfolding ◌>>=◌ ends_in range_in numeral_in
returns-else-is_numeral c = search rules
