use Rattle.std.proofs.Common.{◌≡◌, negsuc, IfOk, sym, ap, subst, ◌∙◌, rules}
use Rattle.bpf_check.specs.Verdicts.{Certifies, Promises}
use Rattle.bpf_host_calls.specs.Told.{order_named}
use Rattle.bpf_host_calls.proofs.VerdictLemmas.{certified, is_program, loads, tells_too_long}
use Rattle.bpf_host_calls.proofs.running.load.Goals as goal

pub kept-requires : goal.kept-requires
kept-requires c = is_program c.in-Some.order c.args.image.now c.verify.result c.verify.ensures.ok

pub returns-clause-accepts : goal.returns-clause-accepts
returns-clause-accepts c = λ d few size certifies paid.
    let is : c.in-Some.order ≡ order_named c.args.asked.order = c.in-Some.ensures.named.0 ∙ ap order_named c.from.ensures in
    let says = c.verify.ensures.accepts d (subst (λ o. Certifies o c.args.image.now c.args.certificate.now d) (sym is) certifies) in
    let k = c.kept.ensures in
    let told = loads c.verify.result c.kept.result c.kept.new.verdict c.kept.new.refusal d c.args.asked.limit says k.yes k.no (λ small. k.small small size) k.answers k.long paid in
    search (rules, told)

pub returns-clause-unpaid : goal.returns-clause-unpaid
returns-clause-unpaid c = λ d few size certifies over.
    let is : c.in-Some.order ≡ order_named c.args.asked.order = c.in-Some.ensures.named.0 ∙ ap order_named c.from.ensures in
    let says = c.verify.ensures.accepts d (subst (λ o. Certifies o c.args.image.now c.args.certificate.now d) (sym is) certifies) in
    let k = c.kept.ensures in
    let told = tells_too_long c.verify.result c.kept.result c.kept.new.verdict c.kept.new.refusal d c.args.asked.limit says k.yes k.no (λ small. k.small small size) k.answers k.paid over in
    search (rules, told)

pub returns-clause-certified : goal.returns-clause-certified
returns-clause-certified c = λ which.
    let is : c.in-Some.order ≡ order_named c.args.asked.order = c.in-Some.ensures.named.0 ∙ ap order_named c.from.ensures in
    let small : c.kept.result ≡ negsuc 2 = search rules in
    let promised = subst (λ o. IfOk c.verify.result (λ v. Promises o c.args.image.now c.args.certificate.now v.least v.most v.bound)) is c.verify.ensures.promised in
    certified (order_named c.args.asked.order) c.args.image.now c.args.certificate.now c.verify.result (c.kept.ensures.certified small) promised
