use Rattle.std.proofs.Common.{ap, ◌∙◌}
use Rattle.bpf_check.proofs.Promise.{verified, verified_as, promises, has_flaw, if_some, not_both}
use Rattle.bpf_check.proofs.verifier.verify.Goals as goal

pub returns-in-Ok-check-clause-ok : goal.returns-in-Ok-check-clause-ok
returns-in-Ok-check-clause-ok g c =
    let is = c.in-Ok-check.ensures.ok in
    verified_as c.args.order c.args.image.now c.in-Ok-read.certificate _ _ _
    (record {
      least_is = c.least.ensures ∙ ap (λ k. k.certificate.least) is;
      most_is = c.most.ensures ∙ ap (λ k. k.certificate.most) is;
      bound_is = c.bound.ensures ∙ ap (λ k. k.certificate.steps) is;
    })
    (verified c.image_is_injective.ensures c.certified_is_safe.ensures c.certified_is_flat_safe.ensures c.args.order c.args.image.now c.in-Ok.program c.in-Ok-read.certificate c.in-Ok.ensures.ok.0 c.in-Ok.ensures.ok.1 c.in-Ok-check.ensures.certified)

pub returns-in-Ok-check-clause-promised : goal.returns-in-Ok-check-clause-promised
returns-in-Ok-check-clause-promised g c =
    let is = c.in-Ok-check.ensures.ok in
    if_some (g.R.Read.remaining c.args.certificate)
    (λ text spelled. promises c.args.order c.args.image.now text c.in-Ok.program c.in-Ok-read.certificate _ _ _ c.in-Ok.ensures.ok.0 c.in-Ok.ensures.ok.1 c.in-Ok-check.ensures.certified spelled
    (record {
      least_is = c.least.ensures ∙ ap (λ k. k.certificate.least) is;
      most_is = c.most.ensures ∙ ap (λ k. k.certificate.most) is;
      bound_is = c.bound.ensures ∙ ap (λ k. k.certificate.steps) is;
    }))
    c.in-Ok-read.ensures.ok

pub returns-clause-err : goal.returns-clause-err
returns-clause-err g c =
    if_some (g.R.Read.remaining c.args.certificate) (λ text spelled. has_flaw c.args.order c.args.image.now text c.in-Ok.program c.in-Ok-read.certificate c.in-Err-check.refusal c.in-Ok.ensures.ok.0 c.in-Ok.ensures.ok.1 c.in-Ok.ensures.program spelled c.in-Err-check.ensures.err) c.in-Ok-read.ensures.ok

pub returns-clause-accepts : goal.returns-clause-accepts
returns-clause-accepts g c =
    if_some (g.R.Read.remaining c.args.certificate) (λ text same d theirs. not_both c.image_is_injective.ensures c.args.order c.args.image.now text c.in-Ok.program c.in-Ok-read.certificate d c.in-Err-check.refusal c.in-Ok.ensures.ok.0 c.in-Ok.ensures.ok.1 c.in-Err-check.ensures.err (same d theirs.spelled) theirs) c.in-Ok-read.ensures.accepts
