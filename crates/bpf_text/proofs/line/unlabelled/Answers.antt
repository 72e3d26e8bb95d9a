use Rattle.std.proofs.Common.{◌≡◌, Some, None, option_map, ap, sym, ◌∙◌}
use Rattle.bpf_text.specs.code.LineReading.{behind_it}
use Rattle.bpf_text.proofs.LabelLemmas.{starts, passed, no_colon_left, no_label_left}
use Rattle.bpf_text.proofs.line.unlabelled.Goals as goal

pub labels-init : goal.labels-init
labels-init c = starts c.args.line.now

pub labels-preserved : goal.labels-preserved
labels-preserved c =
    let some : Some c.in-Some.more.now ≡ behind_it 58 c.labels.rest.now = ap (option_map (λ x. x.now)) (sym c.in-Some.is) ∙ c.cut.ensures.rest in
    passed c.args.line.now c.labels.rest.now c.cut.result.0.now c.in-Some.more.now c.in-Some-label_name.field-0.now c.labels.invariant c.cut.ensures.front some c.in-Some-label_name.ensures

pub returns-in_default : goal.returns-in_default
returns-in_default c =
    let none : behind_it 58 c.labels.rest.now ≡ None = sym c.cut.ensures.rest ∙ ap (option_map (λ x. x.now)) c.in_default.is in
    no_colon_left c.args.line.now c.labels.rest.now c.labels.invariant none

pub returns-in_default-label_name : goal.returns-in_default-label_name
returns-in_default-label_name c = no_label_left c.args.line.now c.labels.rest.now c.cut.result.0.now c.labels.invariant c.cut.ensures.front c.in_default-label_name.ensures
