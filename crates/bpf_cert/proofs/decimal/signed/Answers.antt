use Rattle.std.proofs.Common.{rules}
use Rattle.bpf_cert.specs.Reading.{signed_in, or_else, numeral_in, ◌>>=◌}
use Rattle.bpf_cert.proofs.decimal.signed.Goals as goal

pub returns-then-is_numeral : goal.returns-then-is_numeral
unfolding signed_in or_else numeral_in ◌>>=◌
returns-then-is_numeral c = search rules

pub returns-then-is_numeral-2 : goal.returns-then-is_numeral-2
unfolding signed_in or_else numeral_in ◌>>=◌
returns-then-is_numeral-2 c = search rules

pub returns-else-is_numeral-2 : goal.returns-else-is_numeral-2
unfolding signed_in or_else numeral_in ◌>>=◌
returns-else-is_numeral-2 c = search rules
