use Rattle.bpf_check.proofs.BudgetLemmas.{cost_here}
use Rattle.bpf_check.proofs.arrival.one_more.Goals as goal

pub with_one-requires-clause-spent : goal.with_one-requires-clause-spent
with_one-requires-clause-spent c = cost_here c.args.slot c.args.cost c.in-Some.spent c.requires.here c.in-Some.is c.requires.cost
