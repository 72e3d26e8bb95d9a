use Rattle.std.proofs.Common.{◌≡◌, true, not, sym, ap, ◌∙◌}
use Rattle.std.specs.List.{list_all}
use Rattle.std.proofs.lemmas.List.{take_all}
use Rattle.std.proofs.lemmas.List.Folds.{list_all-map, list_all_at}
use Rattle.bpf_cert.specs.View.{label_view, function_view}
use Rattle.bpf_safety.specs.Flaw.{is_outside}
use Rattle.bpf_check.proofs.index.has_labels_inside.Goals as goal

pub returns-then-is_outside : goal.returns-then-is_outside
returns-then-is_outside c =
    let k = c.args.certificate.now in
    let f = function_view c.args.function.now in
    let ls = c.as_slice-labels.result.now in
    let i = c.loop-label.label-index in
    let outside : is_outside k f (label_view c.label-item.result) ≡ true = sym c.is_outside.ensures ∙ c.if-is_outside.true in
    sym (list_all-map (λ l. not (is_outside k f l)) label_view c.args.function.now.labels.items
    ∙ ap (list_all (λ l. not (is_outside k f (label_view l)))) (sym c.as_slice-labels.ensures.value)
    ∙ list_all_at (λ l. not (is_outside k f (label_view l))) ls i c.label-item.result c.loop-label-test.true
    (ap (λ l. not (is_outside k f (label_view l))) (sym c.label-item.is) ∙ ap not outside))

pub returns : goal.returns
returns c =
    let f = function_view c.args.function.now in
    let ls = c.as_slice-labels.result.now in
    sym (list_all-map (λ l. not (is_outside c.args.certificate.now f l)) label_view c.args.function.now.labels.items
    ∙ ap (list_all (λ l. not (is_outside c.args.certificate.now f (label_view l)))) (sym c.as_slice-labels.ensures.value ∙ sym (take_all c.loop-label.label-index ls c.loop-label-test.false))
    ∙ c.loop-label.invariant)
