use Rattle.bpf_kept.proofs.CertifiedLaw.{certified_keeps_flat_meaning}
use Rattle.bpf_kept.proofs.laws.certified_keeps_flat_meaning.Goals as goal

pub returns : goal.returns
returns c = certified_keeps_flat_meaning c.certified_is_safe.ensures c.certified_describes.ensures
