use Rattle.std.proofs.Common.{◌≡◌, sym, ap, subst, ◌∙◌, rules}
use Rattle.bpf_check.specs.Verdicts.{Certifies}
use Rattle.bpf_host_calls.specs.Told.{order_named}
use Rattle.bpf_host_calls.proofs.VerdictLemmas.{accepted}
use Rattle.bpf_host_calls.proofs.running.verify.Goals as goal

pub returns-clause-accepts : goal.returns-clause-accepts
returns-clause-accepts c = λ d few certifies.
    let is : c.in-Some.order ≡ order_named c.args.order = c.in-Some.ensures.named.0 ∙ ap order_named c.from.ensures in
    let says = c.verify.ensures.accepts d (subst (λ o. Certifies o c.args.image.now c.args.certificate.now d) (sym is) certifies) in
    let told = accepted c.verify.result c.told.result c.told.new.verdict c.told.new.refusal d says c.told.ensures.yes c.told.ensures.no c.told.ensures.answers in
    search (rules, told)
