-- Certificates that are proposed.
use Rattle.std.specs.Prelude.{◌≡◌, ◌≢◌, ◌<◌, ◌⊎◌, ◌++◌, ℕ, List, length, drop}
use Rattle.bpf_insn.specs.Instruction.{slots}
use Rattle.bpf_insn.specs.Laws.{IsImageOfProgram}
use Rattle.bpf_insn.specs.Refusal.{IsRefused}
use Rattle.bpf_insn.specs.declared.order.Order.{Order}
use Rattle.bpf_insn.specs.declared.instruction.Insn.{Insn}
use Rattle.bpf_insn.specs.declared.refusal.DecodeError.{DecodeError}
use Rattle.bpf_cert.specs.View.{CertificateView}
use Rattle.bpf_cert.specs.Certificates.{Spells}
use Rattle.bpf_infer_base.specs.RefusalNumbers.{infer_slot}
use Rattle.bpf_infer_base.specs.declared.error.InferError.{InferError}
use Rattle.bpf_infer_base.specs.declared.error.InferError.TheVariants.{Memory as OutOfMemory}
use Rattle.bpf_host_calls.specs.Told.{TellsImage}
use Rattle.bpf_host_calls.specs.declared.answers.BpfRefusal.{BpfRefusal}
use Rattle.bpf_host_calls.specs.ToldAdvice.{TellsInference}

-- a text spells a certificate of version 2 for contexts of least to most bytes
pub record IsProposal (least most : ℕ) (text : List ℕ) : Type 0 where
  pub certificate : CertificateView
  pub spelled : Spells text certificate
  pub version_is : certificate.version ≡ 2
  pub least_is : certificate.least ≡ least
  pub most_is : certificate.most ≡ most

-- memory was given a proposal of so many bytes, and is behind that as it was
abbrev pub GivesProposal : ℕ → ℕ → ℕ → List ℕ → List ℕ → Type 0
GivesProposal least most count old new = (text : List ℕ) × IsProposal least most text × (count ≡ length text) × (new ≡ text ++ drop count old)

-- there is a proposal of so many bytes, for which memory is too small
abbrev pub WantsRoom : ℕ → ℕ → ℕ → List ℕ → Type 0
WantsRoom least most count old = (text : List ℕ) × IsProposal least most text × (count ≡ length text) × (length old < count)

-- no certificate is proposed for the program of an image, as is told; that memory ran out is no refusal
pub record IsUnproposed (order : Order) (image : List ℕ) (told : BpfRefusal) : Type 0 where
  pub program : List Insn
  pub is_image : IsImageOfProgram order image program
  pub error : InferError
  pub inside : infer_slot error < slots program
  pub other : error ≢ OutOfMemory
  pub tells : TellsInference error told

-- the image is refused, or no certificate is proposed for its program, as is told
abbrev pub IsNotProposed : Order → List ℕ → BpfRefusal → Type 0
IsNotProposed order image told = ((e : DecodeError) × IsRefused order image e × TellsImage e told) ⊎ IsUnproposed order image told
