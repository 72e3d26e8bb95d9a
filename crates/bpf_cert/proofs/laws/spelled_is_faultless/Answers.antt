use Rattle.bpf_cert.proofs.SpelledLaws.{faultless}
use Rattle.bpf_cert.proofs.laws.spelled_is_faultless.Goals as goal

pub returns : goal.returns
returns c = faultless
