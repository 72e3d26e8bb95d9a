use Rattle.bpf_check.proofs.BudgetLemmas.{cost_here}
use Rattle.bpf_check.proofs.arrival.cost_after.Goals as goal

pub with_more-requires-in-Some-call_cost-clause-spent : goal.with_more-requires-in-Some-call_cost-clause-spent
with_more-requires-in-Some-call_cost-clause-spent c = cost_here c.args.site.now.here.slot c.args.here.now.cost c.in-Some.spent c.requires.site.few c.in-Some.is c.requires.valid.cost
