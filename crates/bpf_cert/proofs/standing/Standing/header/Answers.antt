use Rattle.std.proofs.Common.{sym, ◌∙◌, ap}
use Rattle.bpf_cert.proofs.JudgeLemmas.{header_never, header_ruled}
use Rattle.bpf_cert.specs.code.Standing.{ruled}
use Rattle.bpf_cert.proofs.standing.Standing.header.Goals as goal

pub returns-in_default-clause-value : goal.returns-in_default-clause-value
returns-in_default-clause-value c = λ before st. sym (ap (ruled before) c.in_default.ensures)

pub returns-then-not-is_at_start-clause-value : goal.returns-then-not-is_at_start-clause-value
returns-then-not-is_at_start-clause-value c = λ before st. header_never before _ c.in-Some.form c.is_at_start.result c.in-Some.ensures (c.is_at_start.ensures before st) c.if-not-is_at_start.true

pub returns-in-Ok-clause-value : goal.returns-in-Ok-clause-value
returns-in-Ok-clause-value c = λ before st. c.in-Ok.ensures.value ∙ header_ruled before _ c.in-Some.form c.is_at_start.result c.in-Some.ensures (c.is_at_start.ensures before st) c.if-not-is_at_start.false

pub returns-in-Err-clause-value : goal.returns-in-Err-clause-value
returns-in-Err-clause-value c = λ before st. c.in-Err.ensures.value ∙ header_ruled before _ c.in-Some.form c.is_at_start.result c.in-Some.ensures (c.is_at_start.ensures before st) c.if-not-is_at_start.false
