use Rattle.bpf_cert.proofs.SpelledLaws.{once}
use Rattle.bpf_cert.proofs.laws.spelled_once.Goals as goal

pub returns : goal.returns
returns c = once
