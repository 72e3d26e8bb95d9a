use Rattle.bpf_classic.proofs.Spending.{straight_filters_answer}
use Rattle.bpf_classic.proofs.laws.straight_filters_answer.Goals as goal

pub returns : goal.returns
returns c = straight_filters_answer
