use Rattle.bpf_kept.proofs.ExactLaw.{flat_meaning_is_exact}
use Rattle.bpf_kept.proofs.laws.flat_meaning_is_exact.Goals as goal

pub returns : goal.returns
returns c = flat_meaning_is_exact
