use Rattle.bpf_classic.proofs.Theorem.{conversion_keeps_answers}
use Rattle.bpf_classic.proofs.laws.conversion_keeps_answers.Goals as goal

pub returns : goal.returns
returns c = conversion_keeps_answers
