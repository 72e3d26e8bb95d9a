use Rattle.std.proofs.Common.{◌∙◌, ap}
use Rattle.bpf_cert.proofs.JudgeLemmas.{end_none, end_never, end_found}
use Rattle.std.specs.Prelude.{option_map}
use Rattle.bpf_cert.specs.code.Standing.{fields_in}
use Rattle.bpf_cert.specs.Line.{Line}
use Rattle.bpf_cert.specs.code.Findings.{valued}
use Rattle.bpf_cert.proofs.standing.Standing.end.Goals as goal

pub returns-in_default-clause-value : goal.returns-in_default-clause-value
returns-in_default-clause-value c = λ before st. end_none before _ (fields_in (option_map (λ x. x.now) c.in_default.field-0.1)) c.in_default.field-0.0.now c.in_default.ensures

pub returns-then-is_at_start-clause-value : goal.returns-then-is_at_start-clause-value
returns-then-is_at_start-clause-value c = λ before st. end_never before _ c.is_at_start.result c.in-None.ensures (c.is_at_start.ensures before st) c.if-is_at_start.true

pub returns-in-Ok-clause-value : goal.returns-in-Ok-clause-value
returns-in-Ok-clause-value c = λ before st. ap (valued (λ (u : Unit {0}). Line.end)) c.in-Ok.ensures ∙ end_found before _ c.is_at_start.result c.may_end.result c.in-None.ensures (c.is_at_start.ensures before st) c.if-is_at_start.false (c.may_end.ensures before st)

pub returns-in-Err-clause-value : goal.returns-in-Err-clause-value
returns-in-Err-clause-value c = λ before st. ap (valued (λ (u : Unit {0}). Line.end)) c.in-Err.ensures ∙ end_found before _ c.is_at_start.result c.may_end.result c.in-None.ensures (c.is_at_start.ensures before st) c.if-is_at_start.false (c.may_end.ensures before st)
