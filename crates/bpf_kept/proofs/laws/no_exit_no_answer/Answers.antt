use Rattle.bpf_kept.proofs.CertifiedLaw.{no_exit_no_answer}
use Rattle.bpf_kept.proofs.laws.no_exit_no_answer.Goals as goal

pub returns : goal.returns
returns c = no_exit_no_answer c.certified_describes.ensures
