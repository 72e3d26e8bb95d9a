use Rattle.bpf_text.proofs.LawLemmas.{text_never_both}
use Rattle.bpf_text.proofs.laws.never_both.Goals as goal

pub returns : goal.returns
returns c = text_never_both
