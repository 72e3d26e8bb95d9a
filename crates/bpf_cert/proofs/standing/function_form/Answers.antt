use Rattle.std.proofs.Common.{sym}
use Rattle.bpf_cert.proofs.StandingLemmas.{no_function, function_then, function_else}
use Rattle.bpf_cert.proofs.standing.function_form.Goals as goal

pub returns-in_default : goal.returns-in_default
returns-in_default c = no_function _ (sym c.in_default.ensures)

pub returns-then-both : goal.returns-then-both
returns-then-both c = function_then _ c.in-Some.first.now c.in-Some.depth.now c.in-Some.ret.now c.is_numeral.result c.is_numeral-2.result c.both.result c.in-Some.ensures c.is_numeral.ensures c.is_numeral-2.ensures c.both.ensures c.if-both.true

pub returns-else-both : goal.returns-else-both
returns-else-both c = function_else _ c.in-Some.first.now c.in-Some.depth.now c.in-Some.ret.now c.is_numeral.result c.is_numeral-2.result c.both.result c.in-Some.ensures c.is_numeral.ensures c.is_numeral-2.ensures c.both.ensures c.if-both.false
