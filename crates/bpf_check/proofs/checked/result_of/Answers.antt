use Rattle.std.proofs.Common.{arith, subst, sym}
use Rattle.bpf_flat.specs.Runs.{Ends}
use Rattle.bpf_check.proofs.Promise.{ends}
use Rattle.bpf_check.proofs.checked.result_of.Goals as goal

pub run-requires-clause-ends : goal.run-requires-clause-ends
run-requires-clause-ends g c =
    let p = g.C.Code.program c.args.program.now in
    subst (λ n. Ends p n c.args.context.now) (sym c.steps.ensures)
    (ends c.certified_is_safe.ensures c.certified_is_flat_safe.ensures p c.args.certificate.now c.requires.certified c.args.context.now (λ i. omega (arith, c.type_inv.context i)) c.requires.length)
