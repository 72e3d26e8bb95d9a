use Rattle.std.proofs.Common.{◌∙◌, sym}
use Rattle.std.proofs.lemmas.Bool.{false≢true}
use Rattle.bpf_certify.proofs.CertifiedLemmas.{of_another_order, rewritten}
use Rattle.bpf_certify.proofs.certified.as_fitted.Goals as goal

pub returns-clause-ok : goal.returns-clause-ok
returns-clause-ok c =
    let shown = c.in_ok-shown.ensures in
    let made = c.args.fitted.hardened in
    let taken = c.taken-hardened.ensures in
    let paid = c.in_ok-certificate.ensures in
    let is_found = sym taken.certificate ∙ paid.is_found in
    let order_is = sym c.order.ensures ∙ c.same_order.ensures.0 c.if-not-same_order.false ∙ c.order-2.ensures in
    rewritten c.args.program.now c.args.length c.from.result c.args.wish _ _ made.program made.certificate
    taken.program paid.ok is_found order_is c.requires shown.few c.from.ensures shown.shows

pub returns-then-not-same_order-clause-err : goal.returns-then-not-same_order-clause-err
returns-then-not-same_order-clause-err c =
    let some = c.slots-slots.ensures.valid.some_slot in
    of_another_order c.args.program.now _ c.args.length _ _ c.args.fitted.turns c.args.wish _ some c.in_ok-certificate.ensures.ok c.requires
    (λ same. false≢true (sym c.if-not-same_order.true ∙ c.same_order.ensures.1 (c.order.ensures ∙ same ∙ sym c.order-2.ensures)))
