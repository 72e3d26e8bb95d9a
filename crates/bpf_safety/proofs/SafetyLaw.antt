-- The theorems of certified programs as they are stated.
use Rattle.bpf_safety.specs.Theorems.{CertifiedDescribes, CertifiedIsSafe}
use Rattle.bpf_safety.proofs.LawsBelow.{Laws}
use Rattle.bpf_safety.proofs.Described.{certified_describes}
use Rattle.bpf_safety.proofs.Safe.{certified_is_safe}
use Rattle.bpf_safety.proofs.WellFormedLaw.{well_formed}

pub safety : Laws → CertifiedIsSafe
safety laws p c program certificate certified = certified_is_safe p c laws program (well_formed c certificate) certified

pub describing : Laws → CertifiedDescribes
describing laws p c context k m program certificate certified is_context run = certified_describes p c laws program (well_formed c certificate) certified context k m is_context run
