use Rattle.std.proofs.Common.{◌≡◌, IfSome, arith, subst, sym}
use Rattle.bpf_safety.specs.Describes.{LengthWithin}
use Rattle.bpf_flat.specs.Runs.{Ends}
use Rattle.bpf_check.specs.CheckedProgram.{CheckedProgram}
use Rattle.bpf_check.proofs.Promise.{ends}
use Rattle.bpf_check.proofs.runnable.Runnable.run.Goals as goal

pub run-requires-clause-ends : goal.run-requires-clause-ends
run-requires-clause-ends g c =
    let k : CheckedProgram = c.self.inside.checked.now in
    let same : c.in-Some.prepared ≡ k.program = subst (λ o. IfSome o (λ p. p ≡ k.program)) c.in-Some.is c.self.invariant in
    let within = subst (λ (q : CheckedProgram). LengthWithin q.certificate.least q.certificate.most c.args.context.now) (sym c.self.view_is) c.requires in
    subst (λ n. Ends c.in-Some.prepared n c.args.context.now) (sym c.bound.ensures)
    (subst (λ p. Ends p k.certificate.steps c.args.context.now) (sym same) (ends c.certified_is_safe.ensures c.certified_is_flat_safe.ensures k.program k.certificate c.valid.ensures.certified c.args.context.now (λ i. omega (arith, c.type_inv.context i)) within))
