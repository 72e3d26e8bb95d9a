use Rattle.bpf_conversion.proofs.law.certified_at_once.Goals as goal
use Rattle.bpf_conversion.proofs.LawLemmas.{certified}

-- src/law.rt:6:1
pub returns : goal.returns
returns c = certified
