use Rattle.bpf_classic.proofs.Spending.{more_turns_keep_answers}
use Rattle.bpf_classic.proofs.laws.more_turns_keep_answers.Goals as goal

pub returns : goal.returns
returns c = more_turns_keep_answers
