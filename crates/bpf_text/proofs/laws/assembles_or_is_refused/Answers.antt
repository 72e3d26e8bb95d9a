use Rattle.bpf_text.proofs.JudgedLemmas.{judged}
use Rattle.bpf_text.proofs.laws.assembles_or_is_refused.Goals as goal

pub returns : goal.returns
returns c = judged
