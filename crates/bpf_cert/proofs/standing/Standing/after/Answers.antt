use Rattle.std.proofs.Common.{arith}
use Rattle.bpf_cert.proofs.AfterLemmas.{few_functions, few_labels, stands_function, stands_label}
use Rattle.bpf_cert.proofs.standing.Standing.after.Goals as goal

pub returns-in-Function-clause-stands : goal.returns-in-Function-clause-stands
returns-in-Function-clause-stands c = rw c.in-Function.is (λ before st e. let few = few_functions before c.args.self _ _ _ _ st e in
    stands_function before c.args.self c.in-Function.first _ _ _ c.saturating_add.result (rw c.in-Function.is at c.requires) st e (omega (arith, few, c.saturating_add.ensures)))

pub returns-in-Label-clause-stands : goal.returns-in-Label-clause-stands
returns-in-Label-clause-stands c = rw c.in-Label.is (λ before st e. let few = few_labels before c.args.self _ _ _ _ st e in
    stands_label before c.args.self c.in-Label.slot _ _ _ c.saturating_add-in-Label.result (rw c.in-Label.is at c.requires).0 st e (omega (arith, few, c.saturating_add-in-Label.ensures)))
