use Rattle.std.proofs.Common.{sym}
use Rattle.bpf_cert.proofs.HeaderForms.{no_two_lengths, two_then, two_else}
use Rattle.bpf_cert.proofs.header.two_lengths.Goals as goal

pub returns-in_default : goal.returns-in_default
returns-in_default c = no_two_lengths _ (sym c.in_default.ensures)

pub returns-then-both : goal.returns-then-both
returns-then-both c = two_then _ c.in-Some.least.now c.in-Some.most.now c.in-Some.steps.now c.is_numeral.result c.is_numeral-2.result c.is_numeral-3.result c.both-lengths.result c.both.result
    c.in-Some.ensures c.is_numeral.ensures c.is_numeral-2.ensures c.is_numeral-3.ensures c.both-lengths.ensures c.both.ensures c.if-both.true

pub returns-else-both : goal.returns-else-both
returns-else-both c = two_else _ c.in-Some.least.now c.in-Some.most.now c.in-Some.steps.now c.is_numeral.result c.is_numeral-2.result c.is_numeral-3.result c.both-lengths.result c.both.result
    c.in-Some.ensures c.is_numeral.ensures c.is_numeral-2.ensures c.is_numeral-3.ensures c.both-lengths.ensures c.both.ensures c.if-both.false
