use Rattle.bpf_text.proofs.LawLemmas.{text_refused_once}
use Rattle.bpf_text.proofs.laws.refused_once.Goals as goal

pub returns : goal.returns
returns c = text_refused_once
