use Rattle.std.proofs.Common.{◌≡◌, Some, sym, ap, ◌∙◌, refl}
use Rattle.std.specs.Prelude.{option_map, option_copied, slice_get}
use Rattle.std.proofs.lemmas.Option.{slice_get_past, slice_get_read, slice_get-map}
use Rattle.bpf_cert.specs.View.{function_view}
use Rattle.bpf_safety.specs.Labels.{function_at}
use Rattle.bpf_check.proofs.CertificateFacts.{labels_rise_at}
use Rattle.bpf_check.proofs.LoopLimits.{function_limited}
use Rattle.bpf_check.proofs.PlaceLemmas.{labels_rise_there}
use Rattle.bpf_check.proofs.ToldLemmas.{told_all, all_told}
use Rattle.bpf_check.proofs.standing.standing_at.Goals as goal

pub standing_of-requires-clause-rising : goal.standing_of-requires-clause-rising
standing_of-requires-clause-rising g c =
    let there : function_at c.args.certificate.now c.args.slot ≡ Some (function_view c.in-Some.function.now) = sym c.function_at.ensures.value ∙ ap (λ o. option_map function_view (option_copied o)) c.in-Some.is in
    labels_rise_there c.args.certificate.now c.args.slot (function_view c.in-Some.function.now) c.valid.ensures there

pub standing_of-requires-2-clause-limited : goal.standing_of-requires-2-clause-limited
standing_of-requires-2-clause-limited g c = function_limited c.args.certificate.now c.functions-functions.result.now c.args.number _ c.valid.ensures c.functions-functions.ensures c.if-number-functions.false c.index-functions-number.is

pub standing_of-requires-2-clause-rising : goal.standing_of-requires-2-clause-rising
standing_of-requires-2-clause-rising g c = labels_rise_at c.args.certificate.now c.functions-functions.result.now c.args.number _ _ c.valid.ensures c.functions-functions.ensures c.if-number-functions.false c.index-functions-number.is refl

pub returns-then-number-functions-clause-function : goal.returns-then-number-functions-clause-function
returns-then-number-functions-clause-function g c =
    let functions = c.functions-functions.result.now in
    sym (told_all c.args.certificate.now c.args.slot c.args.number _ c.is_in_place.ensures c.if-is_in_place.false
    ∙ ap (λ fs. slice_get fs c.args.number) (sym c.functions-functions.ensures)
    ∙ slice_get-map function_view functions c.args.number
    ∙ ap (option_map function_view) (slice_get_past functions c.args.number c.if-number-functions.true))

pub returns-clause-function : goal.returns-clause-function
returns-clause-function g c =
    let functions = c.functions-functions.result.now in
    ap (λ f. Some (function_view f)) c.standing_of-2.ensures.function
    ∙ sym (told_all c.args.certificate.now c.args.slot c.args.number _ c.is_in_place.ensures c.if-is_in_place.false
    ∙ ap (λ fs. slice_get fs c.args.number) (sym c.functions-functions.ensures)
    ∙ slice_get-map function_view functions c.args.number
    ∙ ap (option_map function_view) (slice_get_read functions _ c.args.number _ refl c.if-number-functions.false c.index-functions-number.is))

pub returns-then-number-gt0-clause-all : goal.returns-then-number-gt0-clause-all
returns-then-number-gt0-clause-all g c = all_told c.args.certificate.now c.args.slot c.valid.ensures

pub returns-in_default-clause-all : goal.returns-in_default-clause-all
returns-in_default-clause-all g c = all_told c.args.certificate.now c.args.slot c.valid.ensures

pub returns-then-is_in_place-clause-all : goal.returns-then-is_in_place-clause-all
returns-then-is_in_place-clause-all g c = all_told c.args.certificate.now c.args.slot c.valid.ensures

pub returns-then-number-functions-clause-all : goal.returns-then-number-functions-clause-all
returns-then-number-functions-clause-all g c = all_told c.args.certificate.now c.args.slot c.valid.ensures

pub returns-clause-all : goal.returns-clause-all
returns-clause-all g c = all_told c.args.certificate.now c.args.slot c.valid.ensures
