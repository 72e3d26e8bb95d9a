use Rattle.std.proofs.Common.{rules}
use Rattle.std.proofs.Common.{arith}
use Rattle.std.proofs.lemmas.Grind.{common_steps}
use Rattle.bpf_check.proofs.budget.share_of.Goals as goal

pub overflow_add-from : goal.overflow_add-from
overflow_add-from c = search rules

pub returns-in-Some-clause-value : goal.returns-in-Some-clause-value
returns-in-Some-clause-value c = grind (arith, common_steps)

pub returns-in-Some-clause-small : goal.returns-in-Some-clause-small
returns-in-Some-clause-small c = search rules

pub returns-in_default-clause-value : goal.returns-in_default-clause-value
returns-in_default-clause-value c = search rules

pub returns-in_default-clause-small : goal.returns-in_default-clause-small
returns-in_default-clause-small c = search rules

pub returns-in_default-2-clause-value : goal.returns-in_default-2-clause-value
returns-in_default-2-clause-value c = search rules

pub returns-in_default-2-clause-small : goal.returns-in_default-2-clause-small
returns-in_default-2-clause-small c = search rules
