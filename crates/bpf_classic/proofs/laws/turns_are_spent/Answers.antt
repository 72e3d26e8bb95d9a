use Rattle.bpf_classic.proofs.Spending.{answers_are_kept, no_answer_is_0}
use Rattle.bpf_classic.proofs.laws.turns_are_spent.Goals as goal

pub returns-clause-kept : goal.returns-clause-kept
returns-clause-kept c = answers_are_kept

pub returns-clause-spent : goal.returns-clause-spent
returns-clause-spent c = no_answer_is_0
