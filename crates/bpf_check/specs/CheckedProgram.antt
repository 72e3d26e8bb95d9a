-- A checked program as its contracts see it.
use Rattle.std.specs.Prelude.{◌≡◌}
use Rattle.bpf_insn.specs.Instruction.{Instructions}
use Rattle.bpf_insn.specs.Image.{IsProgram}
use Rattle.bpf_state.specs.Work.{Counts}
use Rattle.bpf_cert.specs.View.{CertificateView}
use Rattle.bpf_cert.specs.Limits.{IsCertificate}
use Rattle.bpf_safety.specs.Certified.{Certified}
use Rattle.bpf_safety.specs.Work.{transfers, comparisons}

-- the work of a check that says yes
abbrev pub work_of : Instructions → CertificateView → Counts
work_of p c = record { transfers = transfers p; comparisons = comparisons p c }

-- a program, the certificate that it was checked with, and the work that was counted
pub record CheckedProgram : Type 0 where
  pub program : Instructions
  pub certificate : CertificateView
  pub work : Counts

abbrev pub checked : Instructions → CertificateView → CheckedProgram
checked p c = record { program = p; certificate = c; work = work_of p c }

-- the one certifies the other
pub record IsCertifiedBy (p : Instructions) (c : CertificateView) : Type 0 where
  pub program : IsProgram p.list
  pub certificate : IsCertificate c
  pub certified : Certified p c

pub record IsChecked (k : CheckedProgram) : Type 0 where
  pub certified : IsCertifiedBy k.program k.certificate
  pub work_is : k.work ≡ work_of k.program k.certificate
