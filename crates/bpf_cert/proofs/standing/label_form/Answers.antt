use Rattle.std.proofs.Common.{sym}
use Rattle.bpf_cert.proofs.StandingLemmas.{no_label, label_short, label_then, label_else, uncons_none}
use Rattle.bpf_cert.proofs.standing.label_form.Goals as goal
use Rattle.std.specs.Prelude.{option_map}
use Rattle.bpf_cert.specs.code.Standing.{fields_in}

pub returns-in_default : goal.returns-in_default
returns-in_default c = no_label _ (uncons_none _ (sym c.in_default.ensures))

pub returns-in_default-next_field : goal.returns-in_default-next_field
returns-in_default-next_field c = label_short _ (fields_in (option_map (λ x. x.now) c.in-Some.rest)) c.in-Some.at.now c.in-Some.ensures c.in_default-next_field.ensures

pub returns-then-both : goal.returns-then-both
returns-then-both c = label_then _ (fields_in (option_map (λ x. x.now) c.in-Some.rest)) c.in-Some.at.now c.in-Some-next_field.base.now (option_map (λ x. x.now) c.in-Some-next_field.rest) c.is_numeral.result c.is_numeral-2.result c.both.result c.in-Some.ensures c.in-Some-next_field.ensures c.is_numeral.ensures c.is_numeral-2.ensures c.both.ensures c.if-both.true

pub returns-else-both : goal.returns-else-both
returns-else-both c = label_else _ (fields_in (option_map (λ x. x.now) c.in-Some.rest)) c.in-Some.at.now c.in-Some-next_field.base.now (option_map (λ x. x.now) c.in-Some-next_field.rest) c.is_numeral.result c.is_numeral-2.result c.both.result c.in-Some.ensures c.in-Some-next_field.ensures c.is_numeral.ensures c.is_numeral-2.ensures c.both.ensures c.if-both.false
