use Rattle.std.proofs.Common.{rules}
use Rattle.bpf_num.proofs.signed.Signed.without.Goals as goal

pub overflow_add-result : goal.overflow_add-result
overflow_add-result c = search rules

pub invariant_of-result : goal.invariant_of-result
invariant_of-result c = search rules

pub overflow_sub-result : goal.overflow_sub-result
overflow_sub-result c = search rules

pub invariant_of-result-in-false-true : goal.invariant_of-result-in-false-true
invariant_of-result-in-false-true c = search rules

pub returns-in-true-true : goal.returns-in-true-true
returns-in-true-true c = search rules

pub returns-in-true-false : goal.returns-in-true-false
returns-in-true-false c = search rules

pub returns-in-false-true : goal.returns-in-false-true
returns-in-false-true c = search rules

pub returns-in-false-false : goal.returns-in-false-false
returns-in-false-false c = search rules
