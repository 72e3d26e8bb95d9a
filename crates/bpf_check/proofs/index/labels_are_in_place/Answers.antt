use Rattle.std.proofs.Common.{sym, ap, ◌∙◌}
use Rattle.std.specs.List.{list_all}
use Rattle.std.proofs.lemmas.List.{take_all}
use Rattle.std.proofs.lemmas.List.Folds.{list_all-map, list_all_at}
use Rattle.bpf_cert.specs.View.{function_view}
use Rattle.bpf_check.specs.LabelIndex.{holds_labels}
use Rattle.bpf_check.proofs.index.labels_are_in_place.Goals as goal

pub returns-then-not-has_labels_inside : goal.returns-then-not-has_labels_inside
returns-then-not-has_labels_inside c =
    let k = c.args.certificate.now in
    let fs = c.functions-functions.result.now in
    let i = c.loop-function.function-index in
    sym (ap (list_all (holds_labels k)) (sym c.functions-functions.ensures)
    ∙ list_all-map (holds_labels k) function_view fs
    ∙ list_all_at (λ f. holds_labels k (function_view f)) fs i c.function-item.result c.loop-function-test.true
    (ap (λ f. holds_labels k (function_view f)) (sym c.function-item.is) ∙ sym c.has_labels_inside.ensures ∙ c.if-not-has_labels_inside.true))

pub returns : goal.returns
returns c =
    let k = c.args.certificate.now in
    let fs = c.functions-functions.result.now in
    sym (ap (list_all (holds_labels k)) (sym c.functions-functions.ensures)
    ∙ list_all-map (holds_labels k) function_view fs
    ∙ ap (list_all (λ f. holds_labels k (function_view f))) (sym (take_all c.loop-function.function-index fs c.loop-function-test.false))
    ∙ c.loop-function.invariant)
