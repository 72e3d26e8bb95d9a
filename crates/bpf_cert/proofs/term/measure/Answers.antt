use Rattle.std.proofs.Common.{◌≡◌, true, [], rules}
use Rattle.std.specs.Str.{bytes_eq}
use Rattle.bpf_cert.proofs.TermLemmas.{empty_text}
use Rattle.bpf_cert.specs.Reading.{measure_in, or_else, numeral_in, ◌>>=◌, place_closed_in}
use Rattle.bpf_cert.proofs.term.measure.Goals as goal

pub returns-in-Some : goal.returns-in-Some
unfolding measure_in or_else numeral_in ◌>>=◌ place_closed_in
returns-in-Some c = search rules

pub returns-in_err-inside : goal.returns-in_err-inside
unfolding measure_in or_else numeral_in ◌>>=◌ place_closed_in
returns-in_err-inside c = search rules

pub returns-in_err-limit : goal.returns-in_err-limit
unfolding measure_in or_else numeral_in ◌>>=◌ place_closed_in
returns-in_err-limit c = search rules

pub returns-then-not-is_numeral : goal.returns-then-not-is_numeral
unfolding measure_in or_else numeral_in ◌>>=◌ place_closed_in
returns-then-not-is_numeral c = search rules

pub returns-in_err-name : goal.returns-in_err-name
unfolding measure_in or_else numeral_in ◌>>=◌ place_closed_in
returns-in_err-name c = search rules

pub returns-in_err-place : goal.returns-in_err-place
unfolding measure_in or_else numeral_in ◌>>=◌ place_closed_in
returns-in_err-place c = search rules

pub returns-then-is_empty : goal.returns-then-is_empty
unfolding measure_in or_else numeral_in ◌>>=◌ place_closed_in
returns-then-is_empty c = let bare : bytes_eq c.in_ok-name.more.now [] ≡ true = empty_text c.in_ok-name.more.now c.is_empty.result c.if-is_empty.true c.is_empty.ensures in search rules

pub returns-else-is_empty : goal.returns-else-is_empty
unfolding measure_in or_else numeral_in ◌>>=◌ place_closed_in
returns-else-is_empty c = search rules
