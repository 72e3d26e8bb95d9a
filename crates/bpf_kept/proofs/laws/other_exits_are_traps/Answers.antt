use Rattle.bpf_kept.proofs.CertifiedLaw.{other_exits_are_traps}
use Rattle.bpf_kept.proofs.laws.other_exits_are_traps.Goals as goal

pub returns : goal.returns
returns c = other_exits_are_traps c.finish_is_last.ensures c.runs_are_one.ensures
