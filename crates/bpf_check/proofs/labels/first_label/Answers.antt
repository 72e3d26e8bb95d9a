use Rattle.std.proofs.Common.{sym, ap, ◌∙◌}
use Rattle.std.specs.Prelude.{option_map, option_copied}
use Rattle.bpf_cert.specs.View.{label_view}
use Rattle.bpf_check.proofs.CertificateFacts.{labels_rise_at, label_here, label_later}
use Rattle.bpf_check.proofs.labels.first_label.Goals as goal

pub label_among-requires : goal.label_among-requires
label_among-requires c = labels_rise_at c.args.certificate.now c.functions-functions.result.now c.loop-function.function-index _ _ c.valid.ensures c.functions-functions.ensures c.loop-function-test.true c.function-item.is c.deref.ensures.value

pub returns-in-Some : goal.returns-in-Some
returns-in-Some c =
    sym (label_here c.args.slot c.functions-functions.result.now c.loop-function.function-index _ _ _ c.loop-function-test.true c.function-item.is c.deref.ensures.value (sym (ap (λ o. option_map label_view (option_copied o)) c.in-Some.is) ∙ c.label_among.ensures.label))
    ∙ c.loop-function.invariant

pub loop-function-preserved : goal.loop-function-preserved
loop-function-preserved c =
    sym (label_later c.args.slot c.functions-functions.result.now c.loop-function.function-index _ _ c.loop-function-test.true c.function-item.is c.deref.ensures.value (sym (ap (λ o. option_map label_view (option_copied o)) c.in_default.is) ∙ c.label_among.ensures.label))
    ∙ c.loop-function.invariant
