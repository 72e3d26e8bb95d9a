-- The certificate that is made by templates certifies the program, on contexts that are long enough for their form: a block's have eight bytes at least,
-- with Linux's auxiliary data 72.
use Rattle.std.specs.Prelude.{◌≤◌}
use Rattle.bpf_insn.specs.Image.{IsProgram}
use Rattle.bpf_safety.specs.Certified.{Certified}
use Rattle.bpf_classic.specs.Template.{head}
use Rattle.bpf_classic.specs.Meaning.{Conversion}
use Rattle.bpf_conversion.specs.Claim.{IsConversion, claim}

abbrev pub CertifiedAtOnce : Type 0
CertifiedAtOnce = (c : Conversion) → IsConversion c → IsProgram c.program.list → head c.layout.form ≤ c.layout.length → Certified c.program (claim c)
