use Rattle.std.proofs.Common.{not, subst}
use Rattle.bpf_safety.specs.Flaw.{at, number_if}
use Rattle.bpf_check.specs.code.Least.{IsLeastRefusal}
use Rattle.bpf_check.proofs.shape.flaw_of_function.Goals as goal

pub returns : goal.returns
returns g c =
    c.lesser.ensures _ _
    (subst (λ b. IsLeastRefusal (at c.args.function.now.first (number_if 13 (not b))) c.refused_if-misshapen.result) c.is_first_label.ensures c.refused_if-misshapen.ensures)
    c.flaw_of_labels.ensures
