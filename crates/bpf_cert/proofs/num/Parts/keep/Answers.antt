use Rattle.std.proofs.Common.{refl}
use Rattle.bpf_cert.specs.code.Seen.{is_canonical_part}
use Rattle.bpf_cert.specs.Faults.{is_limited_part}
use Rattle.bpf_cert.specs.Spelling.{signed_parts}
use Rattle.bpf_cert.specs.code.Seen.{signed_seen}
use Rattle.bpf_cert.specs.Line.{Part}
use Rattle.bpf_cert.proofs.FindingLemmas.{found_single}
use Rattle.bpf_cert.proofs.num.Parts.keep.Goals as goal

pub returns-in-Ok-signed-clause-kept : goal.returns-in-Ok-signed-clause-kept
returns-in-Ok-signed-clause-kept c = rw c.in-Signed.is
    (let p = Part.signed (signed_seen c.in-Signed.low) (signed_seen c.in-Signed.high) in found_single (is_canonical_part p) (is_limited_part p) p (signed_parts c.in-Ok-signed.signed) c.in-Ok-signed.ensures, refl, refl)
