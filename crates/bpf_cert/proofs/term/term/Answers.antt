use Rattle.std.proofs.Common.{rules}
use Rattle.bpf_cert.specs.Reading.{term_in, numeral_in, ◌>>=◌}
use Rattle.bpf_cert.proofs.term.term.Goals as goal

pub returns-in_err-product : goal.returns-in_err-product
unfolding term_in numeral_in ◌>>=◌
returns-in_err-product c = search rules

pub returns-in_err-weight : goal.returns-in_err-weight
unfolding term_in numeral_in ◌>>=◌
returns-in_err-weight c = search rules

pub returns-then-not-is_numeral : goal.returns-then-not-is_numeral
unfolding term_in numeral_in ◌>>=◌
returns-then-not-is_numeral c = search rules

pub returns-in_err-limit : goal.returns-in_err-limit
unfolding term_in numeral_in ◌>>=◌
returns-in_err-limit c = search rules

pub returns : goal.returns
unfolding term_in numeral_in ◌>>=◌
returns c = search rules
