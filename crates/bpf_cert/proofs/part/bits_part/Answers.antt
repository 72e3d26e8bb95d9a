use Rattle.std.proofs.Common.{rules}
use Rattle.bpf_cert.specs.Reading.{◌>>=◌, numeral_in}
use Rattle.bpf_cert.proofs.part.bits_part.Goals as goal

pub returns-in_err-pair : goal.returns-in_err-pair
unfolding ◌>>=◌ numeral_in
returns-in_err-pair c = search rules

pub returns-in_err-value : goal.returns-in_err-value
unfolding ◌>>=◌ numeral_in
returns-in_err-value c = search rules

pub returns-then-is_numeral-2 : goal.returns-then-is_numeral-2
unfolding ◌>>=◌ numeral_in
returns-then-is_numeral-2 c = search rules

pub returns-else-is_numeral : goal.returns-else-is_numeral
unfolding ◌>>=◌ numeral_in
returns-else-is_numeral c = search rules
