-- How an image is judged while it is explained.
use Rattle.std.specs.Prelude.{◌≡◌, ◌<◌, ◌⊎◌, ◌++◌, ℕ, List, length, drop}
use Rattle.bpf_insn.specs.Instruction.{Instructions}
use Rattle.bpf_insn.specs.Laws.{IsImageOfProgram}
use Rattle.bpf_insn.specs.Limits.{max_context}
use Rattle.bpf_insn.specs.Refusal.{IsRefused}
use Rattle.bpf_insn.specs.declared.order.Order.{Order}
use Rattle.bpf_insn.specs.declared.instruction.Insn.{Insn}
use Rattle.bpf_insn.specs.declared.refusal.DecodeError.{DecodeError}
use Rattle.bpf_cert.specs.View.{CertificateView}
use Rattle.bpf_safety.specs.Certified.{Certified, IsLeastFlaw}
use Rattle.bpf_check.specs.RefusalNumbers.{refusal_slot, refusal_number}
use Rattle.bpf_check.specs.Verdicts.{Certifies, program_in}
use Rattle.bpf_check.specs.declared.refusal.Refusal.{Refusal}
use Rattle.bpf_host_calls.specs.Told.{TellsImage, TellsCheck}
use Rattle.bpf_host_calls.specs.Answers.{IsRefusedAsTold}
use Rattle.bpf_host_calls.specs.Proposals.{IsNotProposed}
use Rattle.bpf_explain_program.specs.declared.shown.Shown.{Shown}
use Rattle.bpf_explain_program.specs.declared.shown.Shown.TheVariants.{Listing, Slot, Graph}
use Rattle.bpf_host_calls.specs.declared.answers.BpfRefusal.{BpfRefusal}
use Rattle.bpf_host_calls.specs.declared.host_advice_asked.RangeAsked.{RangeAsked}
use Rattle.bpf_host_calls.specs.declared.explanation.HowJudged.{HowJudged}
use Rattle.bpf_host_calls.specs.declared.explanation.HowJudged.TheVariants.{Accepted, Refused}

-- ---- what is asked for

-- contexts or a search that there are not; or something else that no call takes
abbrev pub IsNoRange : RangeAsked → Type 0 → Type 0
IsNoRange range other = (range.most < range.least) ⊎ ((max_context < range.most) ⊎ ((1 < range.deep) ⊎ other))

-- by the number of the aspect: the listing, the instruction at a slot, or the graph, with lines of the source
abbrev pub Asks : (aspect slot : ℕ) → List ℕ → Shown → Type 0
Asks aspect slot lines (Listing given) = (aspect ≡ 0) × (given.now ≡ lines)
Asks aspect slot lines (Slot at given) = (aspect ≡ 1) × (at ≡ slot) × (given.now ≡ lines)
Asks aspect slot lines Graph = aspect ≡ 2

-- ---- by itself

-- bytes are the image of a program
abbrev pub IsSomeImage : Order → List ℕ → Type 0
IsSomeImage order image = (is : List Insn) × IsImageOfProgram order image is

-- they are refused, as is told
abbrev pub IsRefusedImage : Order → List ℕ → BpfRefusal → Type 0
IsRefusedImage order image told = (e : DecodeError) × IsRefused order image e × TellsImage e told

abbrev pub IsReadAs : Order → List ℕ → HowJudged → Type 0
IsReadAs order image Accepted = IsSomeImage order image
IsReadAs order image (Refused told) = IsRefusedImage order image told

-- ---- by a certificate's text

abbrev pub IsCertifiedBySome : Order → List ℕ → List ℕ → Type 0
IsCertifiedBySome order image text = (c : CertificateView) × Certifies order image text c

abbrev pub IsCheckedAs : Order → List ℕ → List ℕ → HowJudged → Type 0
IsCheckedAs order image text Accepted = IsCertifiedBySome order image text
IsCheckedAs order image text (Refused told) = IsRefusedAsTold order image text told

-- ---- by a certificate

abbrev pub IsJudgedBy : Instructions → CertificateView → HowJudged → Type 0
IsJudgedBy p c Accepted = Certified p c
IsJudgedBy p c (Refused told) = (r : Refusal) × IsLeastFlaw p c (refusal_slot r) (refusal_number r) × TellsCheck r told

-- ---- by what a search finds for contexts of least to most bytes

-- a certificate of this range, which certifies the image's program
pub record IsFound (order : Order) (image : List ℕ) (least most : ℕ) : Type 0 where
  pub program : List Insn
  pub is_image : IsImageOfProgram order image program
  pub certificate : CertificateView
  pub least_is : certificate.least ≡ least
  pub most_is : certificate.most ≡ most
  pub certified : Certified (program_in order program) certificate

-- one that doesn't: its first flaw is told
pub record IsFoundFlawed (order : Order) (image : List ℕ) (least most : ℕ) (told : BpfRefusal) : Type 0 where
  pub program : List Insn
  pub is_image : IsImageOfProgram order image program
  pub certificate : CertificateView
  pub least_is : certificate.least ≡ least
  pub most_is : certificate.most ≡ most
  pub refusal : Refusal
  pub flaw : IsLeastFlaw (program_in order program) certificate (refusal_slot refusal) (refusal_number refusal)
  pub tells : TellsCheck refusal told

-- no certificate is found, or none that certifies
abbrev pub IsNotFound : Order → List ℕ → ℕ → ℕ → BpfRefusal → Type 0
IsNotFound order image least most told = IsNotProposed order image told ⊎ IsFoundFlawed order image least most told

abbrev pub IsSearchedAs : Order → List ℕ → ℕ → ℕ → HowJudged → Type 0
IsSearchedAs order image least most Accepted = IsFound order image least most
IsSearchedAs order image least most (Refused told) = IsNotFound order image least most told

-- ---- words

-- memory was given so many bytes, and is behind them as it was
abbrev pub GivesWords : ℕ → List ℕ → List ℕ → Type 0
GivesWords count old new = (words : List ℕ) × (count ≡ length words) × (new ≡ words ++ drop count old)
