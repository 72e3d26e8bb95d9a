use Rattle.std.proofs.Common.{rules}
use Rattle.bpf_cert.specs.Reading.{place_in, or_else, numeral_in, ◌>>=◌}
use Rattle.bpf_cert.proofs.place.place.Goals as goal

pub returns-then-is_numeral : goal.returns-then-is_numeral
unfolding place_in or_else numeral_in ◌>>=◌
returns-then-is_numeral c = search rules

pub returns-in_err-index : goal.returns-in_err-index
unfolding place_in or_else numeral_in ◌>>=◌
returns-in_err-index c = search rules

pub returns-then-is_numeral-2 : goal.returns-then-is_numeral-2
unfolding place_in or_else numeral_in ◌>>=◌
returns-then-is_numeral-2 c = search rules

pub returns-else-is_numeral-2 : goal.returns-else-is_numeral-2
unfolding place_in or_else numeral_in ◌>>=◌
returns-else-is_numeral-2 c = search rules
