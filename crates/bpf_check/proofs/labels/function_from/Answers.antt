use Rattle.std.proofs.Common.{sym, ◌∙◌}
use Rattle.std.proofs.lemmas.Bool.{cond-true, cond-false, eq-eqb, ne_eqb}
use Rattle.bpf_check.proofs.CertificateFacts.{function_from_is}
use Rattle.bpf_check.proofs.labels.function_from.Goals as goal

pub returns-in_default-clause-value : goal.returns-in_default-clause-value
returns-in_default-clause-value c = function_from_is c.args.certificate.now c.args.slot _ c.valid.ensures c.in_default.ensures.value

pub returns-then-function-slot-clause-value : goal.returns-then-function-slot-clause-value
returns-then-function-slot-clause-value c =
    sym (cond-true _ _ _ (eq-eqb _ _ c.if-function-slot.true))
    ∙ function_from_is c.args.certificate.now c.args.slot _ c.valid.ensures c.in-Some.ensures.value

pub returns-else-function-slot-clause-value : goal.returns-else-function-slot-clause-value
returns-else-function-slot-clause-value c =
    sym (cond-false _ _ _ (ne_eqb _ _ c.if-function-slot.false))
    ∙ function_from_is c.args.certificate.now c.args.slot _ c.valid.ensures c.in-Some.ensures.value
