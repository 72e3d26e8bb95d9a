use Rattle.std.proofs.Common.{◌≡◌, ap, ◌∙◌, subst}
use Rattle.bpf_host_calls.specs.Told.{order_named}
use Rattle.bpf_host_calls.specs.Followed.{IsNotFollowed}
use Rattle.bpf_host_calls.specs.ToldAdvice.{IsTold}
use Rattle.bpf_host_calls.proofs.following.follows.Goals as goal

pub returns-in-Err-Refused-clause-no : goal.returns-in-Err-Refused-clause-no
returns-in-Err-Refused-clause-no c = λ no.
    let asked = c.args.asked in
    let refused = c.in-Err-Refused in
    let is : c.in-Some.order ≡ order_named asked.order = c.in-Some.ensures.named.0 ∙ ap order_named c.from.ensures in
    let why = subst (IsTold (IsNotFollowed c.in-Some.order asked.old.now asked.new.now asked.notes.now asked.certificate.now)) refused.field-0-is refused.ensures.err in
    subst (λ o. IsNotFollowed o asked.old.now asked.new.now asked.notes.now asked.certificate.now refused.told) is why
