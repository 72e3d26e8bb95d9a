-- What is made of the instructions of a filter.
use Rattle.std.specs.Prelude.{◌≡◌, List, filter_map}
use Rattle.bpf_insn.specs.Instruction.{Instructions}
use Rattle.bpf_insn.specs.Image.{IsProgram}
use Rattle.bpf_cert.specs.Limits.{IsCertificate}
use Rattle.bpf_cert.specs.View.{CertificateView}
use Rattle.bpf_safety.specs.Certified.{Certified}
use Rattle.bpf_classic.specs.Auxiliary.{instruction_in}
use Rattle.bpf_classic.specs.Valid.{IsFilter, IsRefused}
use Rattle.bpf_classic.specs.declared.instruction.Classic.{Classic}
use Rattle.bpf_classic.specs.declared.raw.Raw.{Raw}
use Rattle.bpf_classic.specs.declared.refusal.Kind.{Kind}
use Rattle.bpf_classic.specs.declared.refusal.Kind.TheVariants.{Packets, Seccomp as ForSeccomp, Extended as WithExtensions}
use Rattle.bpf_classic.specs.Meaning.{HasStarts, KeepsAnswers, insns}
use Rattle.bpf_classic.specs.declared.layout.Form.{Form}
use Rattle.bpf_classic.specs.declared.layout.Form.TheVariants.{Blocks, Plain, Seccomp, Extended}
use Rattle.bpf_classic.specs.declared.layout.Wanted.{Wanted}
use Rattle.bpf_classic.specs.declared.refusal.FilterRefusal.{FilterRefusal}
use Rattle.bpf_classic.specs.declared.refusal.FilterRefusal.TheVariants.{Length, Instruction, Memory, Unshown}
use Rattle.bpf_conversion.specs.declared.made.Made.{Made}

abbrev pub kind_of : Form → Kind
kind_of Blocks = Packets
kind_of Plain = Packets
kind_of Seccomp = ForSeccomp
kind_of Extended = WithExtensions

-- the instructions as values
abbrev pub filter_of : Form → List Raw → List Classic
filter_of form raws = filter_map (instruction_in (kind_of form)) raws

-- the certificate certifies the program
pub record Certifies (p : Instructions) (c : CertificateView) : Type 0 where
  pub program : IsProgram p.list
  pub certificate : IsCertificate c
  pub certified : Certified p c

-- The instructions are a filter, the program ends on each context with what the filter answers, if its run jumps back no more often than is wanted, and
-- the certificate certifies it for contexts of this length. It is told at which slot the template of each instruction begins.
pub record IsMade (raws : List Raw) (wanted : Wanted) (made : Made) : Type 0 where
  pub filter : IsFilter (kind_of wanted.form) (filter_of wanted.form raws)
  pub form_is : made.converted.layout.form ≡ wanted.form
  pub length_is : made.converted.layout.length ≡ wanted.length
  pub order_is : made.converted.layout.order ≡ wanted.order
  pub turns_are : made.converted.layout.turns ≡ wanted.turns
  pub runs_in : made.converted.program.order ≡ wanted.order
  pub same : insns made.converted.marked ≡ filter_of wanted.form raws
  pub starts : HasStarts made.converted.layout made.converted.marked made.converted.starts
  pub answers : KeepsAnswers (filter_of wanted.form raws) made.converted.layout made.converted.program
  pub certified : Certifies made.converted.program made.certificate
  pub least : made.certificate.least ≡ wanted.length
  pub greatest : made.certificate.most ≡ wanted.length

-- ---- refusals

-- they are no filter, or memory ran out; or they are one, and no program is made of it
abbrev pub IsRefusedFor : List Raw → Form → FilterRefusal → Type 0
IsRefusedFor raws form Length = IsRefused (kind_of form) raws Length
IsRefusedFor raws form (Instruction at fault) = IsRefused (kind_of form) raws (Instruction at fault)
IsRefusedFor raws form Memory = IsRefused (kind_of form) raws Memory
IsRefusedFor raws form Unshown = IsFilter (kind_of form) (filter_of form raws)
