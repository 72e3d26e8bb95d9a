use Rattle.bpf_text.proofs.LawLemmas.{to_one}
use Rattle.bpf_text.proofs.laws.assembles_to_one.Goals as goal

pub returns : goal.returns
returns c = to_one
