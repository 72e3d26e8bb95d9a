use Rattle.std.proofs.Common.{◌≡◌, Some, None, ap, refl, subst}
use Rattle.bpf_cert.specs.View.{CertificateView}
use Rattle.bpf_safety.specs.Flaw.{flaws}
use Rattle.bpf_safety.specs.Work.{compared_at_start}
use Rattle.bpf_check.specs.code.Counting.{compared, worked_in_pass}
use Rattle.bpf_check.specs.code.Least.{IsLeastRefusal}
use Rattle.bpf_check.proofs.CheckLemmas.{least_is_flaw, none_certifies, visits_faultless, check_work}
use Rattle.bpf_check.proofs.checker.check.Goals as goal

-- the index is the certificate's
pub returns-in-None-clause-certified : goal.returns-in-None-clause-certified
returns-in-None-clause-certified g c =
    let p = g.C.Code.program c.args.program.now in
    record {
      program = c.slots-slots.ensures.valid;
      certificate = c.valid.ensures;
      certified = none_certifies p c.args.certificate.now (subst (λ (k : CertificateView). IsLeastRefusal (flaws p k) None) c.of-index.ensures c.in-None.ensures.flaw);
    }

pub returns-in-None-clause-ok : goal.returns-in-None-clause-ok
returns-in-None-clause-ok g c =
    let p = g.C.Code.program c.args.program.now in
    let k = c.args.certificate.now in
    let by = returns-in-None-clause-certified g c in
    let through : c.least_flaw.new.work ≡ worked_in_pass p k (compared (compared_at_start k) c.new-work.result) = subst (λ (x : CertificateView). c.least_flaw.new.work ≡ worked_in_pass p x (compared (compared_at_start x) c.new-work.result)) c.of-index.ensures c.in-None.ensures.work in
    ap (λ w. record { program = p; certificate = k; work = w })
    (check_work c.certified_work.ensures c.comparisons_are_few.ensures p k by.program by.certificate by.certified (visits_faultless p k by.certified) _ _ _ c.new-work.ensures refl through)

pub invariant_of-result : goal.invariant_of-result
invariant_of-result g c = record {
  certified = returns-in-None-clause-certified g c;
  work_is = ap (λ k. k.work) (returns-in-None-clause-ok g c);
}

pub returns-in-Some-clause-err : goal.returns-in-Some-clause-err
returns-in-Some-clause-err g c =
    let p = g.C.Code.program c.args.program.now in
    least_is_flaw p c.args.certificate.now _ _ (subst (λ (k : CertificateView). IsLeastRefusal (flaws p k) (Some c.in-Some.refusal)) c.of-index.ensures c.in-Some.ensures.flaw)
