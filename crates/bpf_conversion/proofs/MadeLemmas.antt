-- A converted filter's program is certified by its certificate.
use Rattle.std.proofs.Common.{◌≡◌, ◌≤◌, sym, subst}
use Rattle.bpf_insn.specs.Image.{IsProgram}
use Rattle.bpf_cert.specs.Limits.{IsCertificate}
use Rattle.bpf_cert.specs.View.{CertificateView}
use Rattle.bpf_safety.specs.Certified.{Certified}
use Rattle.bpf_classic.specs.Template.{head}
use Rattle.bpf_classic.specs.Meaning.{Conversion}
use Rattle.bpf_conversion.specs.Accepted.{CertifiedAtOnce}
use Rattle.bpf_conversion.specs.Claim.{IsConversion, claim}
use Rattle.bpf_conversion.specs.Made.{Certifies}

-- by the law
pub certifies : CertifiedAtOnce → (c : Conversion) (certificate : CertificateView) → IsConversion c → IsProgram c.program.list → head c.layout.form ≤ c.layout.length
    → IsCertificate certificate → certificate ≡ claim c → Certifies c.program certificate
certifies law c certificate h program room valid is =
    record { program = program; certificate = valid; certified = subst (Certified c.program) (sym is) (law c h program room) }
