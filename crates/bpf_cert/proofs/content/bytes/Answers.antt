use Rattle.std.proofs.Common.{rules}
use Rattle.bpf_cert.specs.Reading.{bytes_in, numeral_in, ◌>>=◌}
use Rattle.bpf_cert.proofs.content.bytes.Goals as goal

pub returns-in_err-mask : goal.returns-in_err-mask
unfolding bytes_in numeral_in ◌>>=◌
returns-in_err-mask c = λ k. search rules

pub returns-then-is_numeral : goal.returns-then-is_numeral
unfolding bytes_in numeral_in ◌>>=◌
returns-then-is_numeral c = λ k. search rules

pub returns-else-is_numeral : goal.returns-else-is_numeral
unfolding bytes_in numeral_in ◌>>=◌
returns-else-is_numeral c = λ k. search rules
