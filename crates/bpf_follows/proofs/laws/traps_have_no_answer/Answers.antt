use Rattle.bpf_follows.proofs.TrapLaws.{traps_have_no_answer}
use Rattle.bpf_follows.proofs.laws.traps_have_no_answer.Goals as goal

pub returns : goal.returns
returns c = traps_have_no_answer c.finish_is_last.ensures c.runs_are_one.ensures
