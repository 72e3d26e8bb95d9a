use Rattle.std.proofs.Common.{◌≡◌, ◌∙◌, IfSome, IsTrue, Ok, length, ap, refl, rules, subst}
use Rattle.bpf_certify.specs.Certified.{Answers, StandsFor}
use Rattle.bpf_host_calls.proofs.CertifiedLemmas.{certified_as, told_ok}
use Rattle.bpf_host_calls.proofs.certification.certification.Goals as goal

pub returns-clause-ok : goal.returns-clause-ok
returns-clause-ok c =
    let given = c.args.given in
    let w = c.args.wish in
    let read = c.in-Ok.ensures in
    let p = c.in-Ok.program in
    let d = c.in-Ok-of_certifying.certified in
    let told = c.told_of-told in
    let bytes = c.in-Some.image.items in
    let text = c.in-Some-text_of.text.items in
    let answers = told_ok c.certify.result (Ok d) d (Answers p c.args.size c.wish_of.result) refl c.in-Ok-of_certifying.ensures c.certify.ensures.ok in
    let stands = subst (λ v. StandsFor p c.args.size v d d.rewritten) c.wish_of.ensures answers in
    let image_length : told.result.image_len ≡ length bytes = search rules in
    let text_length : told.result.certificate_len ≡ length text = search rules in
    certified_as given.order given.image.now c.args.size w told.result bytes text p d d.rewritten read.ok.0 read.ok.1 read.program stands
    (λ asked. told_ok c.certify.result (Ok d) d (λ x. IfSome x.rewritten (λ r. IsTrue r.is_shown)) refl c.in-Ok-of_certifying.ensures (c.certify.ensures.shown (ap (λ v. v.unproved) c.wish_of.ensures ∙ asked)))
    c.in-Some.ensures c.in-Some-text_of.ensures image_length text_length told.ensures.bound told.ensures.made
