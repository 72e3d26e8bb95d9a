use Rattle.std.proofs.Common.{◌≡◌, Some, None, option_map, ap, sym, ◌∙◌}
use Rattle.bpf_text.specs.code.LineReading.{behind_it}
use Rattle.bpf_text.proofs.LineLemmas.{last_here, last_stops, last_goes}
use Rattle.bpf_text.proofs.line.behind_labels.Goals as goal

pub returns-in_default : goal.returns-in_default
returns-in_default c =
    let none : behind_it 58 c.labels.rest.now ≡ None = sym c.cut.ensures.rest ∙ ap (option_map (λ x. x.now)) c.in_default.is in
    sym (last_here c.labels.rest.now none) ∙ c.labels.invariant

pub returns-in_err-label_name : goal.returns-in_err-label_name
returns-in_err-label_name c =
    let some : Some c.in-Some.more.now ≡ behind_it 58 c.labels.rest.now = ap (option_map (λ x. x.now)) (sym c.in-Some.is) ∙ c.cut.ensures.rest in
    rw c.from_residual.ensures (last_stops c.labels.rest.now c.cut.result.0.now c.in-Some.more.now c.cut.ensures.front some c.in_err-label_name.ensures ∙ c.labels.invariant)

pub labels-preserved : goal.labels-preserved
labels-preserved c =
    let some : Some c.in-Some.more.now ≡ behind_it 58 c.labels.rest.now = ap (option_map (λ x. x.now)) (sym c.in-Some.is) ∙ c.cut.ensures.rest in
    last_goes c.labels.rest.now c.cut.result.0.now c.in-Some.more.now c.in_ok-label_name.field-0.now c.cut.ensures.front some c.in_ok-label_name.ensures ∙ c.labels.invariant
