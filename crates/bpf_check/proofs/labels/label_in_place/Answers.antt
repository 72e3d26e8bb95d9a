use Rattle.std.proofs.Common.{◌≡◌, Some, None, map, sym, ◌∙◌, ap}
use Rattle.std.specs.Prelude.{option_map, option_copied, ◌==◌}
use Rattle.bpf_cert.specs.View.{function_view, label_view}
use Rattle.bpf_cert.specs.Limits.{slot_before, is_rising}
use Rattle.bpf_safety.specs.Labels.{function_at, first_with}
use Rattle.bpf_check.proofs.PlaceLemmas.{label_there, no_label_there, labels_rise_there}
use Rattle.bpf_check.proofs.labels.label_in_place.Goals as goal

pub returns-in_default-clause-label : goal.returns-in_default-clause-label
returns-in_default-clause-label c =
    let none : function_at c.args.certificate.now c.args.slot ≡ None = sym c.requires.function ∙ ap (λ o. option_map function_view (option_copied o)) c.in_default.is in
    sym (no_label_there c.args.certificate.now c.args.slot c.requires.place none)

pub returns-in_default-clause-until : goal.returns-in_default-clause-until
returns-in_default-clause-until c n above high same =
    let none : function_at c.args.certificate.now c.args.slot ≡ None = sym c.requires.function ∙ ap (λ o. option_map function_view (option_copied o)) c.in_default.is in
    no_label_there c.args.certificate.now n c.requires.place (same ∙ none)

pub label_among-requires : goal.label_among-requires
label_among-requires c =
    let there : function_at c.args.certificate.now c.args.slot ≡ Some (function_view c.in-Some.function.now) = sym c.requires.function ∙ ap (λ o. option_map function_view (option_copied o)) c.in-Some.is in
    ap (λ ls. is_rising slot_before (map label_view ls)) c.deref.ensures.value ∙ labels_rise_there c.args.certificate.now c.args.slot (function_view c.in-Some.function.now) c.valid.ensures there

pub returns-clause-label : goal.returns-clause-label
returns-clause-label c =
    let there : function_at c.args.certificate.now c.args.slot ≡ Some (function_view c.in-Some.function.now) = sym c.requires.function ∙ ap (λ o. option_map function_view (option_copied o)) c.in-Some.is in
    c.label_among.ensures.label
    ∙ ap (λ ls. first_with (λ l. l.slot == c.args.slot) (map label_view ls)) c.deref.ensures.value
    ∙ sym (label_there c.args.certificate.now c.args.slot (function_view c.in-Some.function.now) c.valid.ensures c.requires.place there)

pub returns-clause-until : goal.returns-clause-until
returns-clause-until c n above high same =
    let there : function_at c.args.certificate.now c.args.slot ≡ Some (function_view c.in-Some.function.now) = sym c.requires.function ∙ ap (λ o. option_map function_view (option_copied o)) c.in-Some.is in
    label_there c.args.certificate.now n (function_view c.in-Some.function.now) c.valid.ensures c.requires.place (same ∙ there)
    ∙ sym (ap (λ ls. first_with (λ l. l.slot == n) (map label_view ls)) c.deref.ensures.value)
    ∙ c.label_among.ensures.until n above high
