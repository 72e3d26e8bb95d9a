use Rattle.std.proofs.Common.{sym}
use Rattle.bpf_cert.proofs.HeaderForms.{no_one_length, one_then, one_else}
use Rattle.bpf_cert.proofs.header.one_length.Goals as goal

pub returns-in_default : goal.returns-in_default
returns-in_default c = no_one_length _ (sym c.in_default.ensures)

pub returns-then-both : goal.returns-then-both
returns-then-both c = one_then _ c.in-Some.len.now c.in-Some.steps.now c.is_numeral.result c.is_numeral-2.result c.both.result c.in-Some.ensures c.is_numeral.ensures c.is_numeral-2.ensures c.both.ensures c.if-both.true

pub returns-else-both : goal.returns-else-both
returns-else-both c = one_else _ c.in-Some.len.now c.in-Some.steps.now c.is_numeral.result c.is_numeral-2.result c.both.result c.in-Some.ensures c.is_numeral.ensures c.is_numeral-2.ensures c.both.ensures c.if-both.false
