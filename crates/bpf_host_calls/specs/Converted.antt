-- Images that are made of filters, and their certificates.
use Rattle.std.specs.Prelude.{◌≡◌, ◌≢◌, ◌<◌, ◌⊎◌, ◌++◌, ℕ, List, Ok, Err, length, drop}
use Rattle.bpf_insn.specs.Laws.{IsImageOfProgram}
use Rattle.bpf_insn.specs.declared.order.Order.{Order}
use Rattle.bpf_insn.specs.declared.instruction.Insn.{Insn}
use Rattle.bpf_check.specs.Verdicts.{Promises, program_in}
use Rattle.bpf_classic.specs.Valid.{IsFilter}
use Rattle.bpf_classic.specs.declared.raw.Raw.{Raw}
use Rattle.bpf_classic.specs.Bytes.{raws_in}
use Rattle.bpf_classic.specs.declared.fault.TextFault.TheVariants.{Part}
use Rattle.bpf_classic.specs.Meaning.{KeepsAnswers}
use Rattle.bpf_classic.specs.declared.layout.Form.{Form}
use Rattle.bpf_classic.specs.declared.layout.Layout.{Layout}
use Rattle.bpf_classic.specs.declared.layout.Wanted.{Wanted}
use Rattle.bpf_classic.specs.declared.refusal.FilterRefusal.{FilterRefusal}
use Rattle.bpf_conversion.specs.Made.{IsRefusedFor, filter_of, kind_of}
use Rattle.bpf_refusals.specs.Told.{told_filter, told_spelling}
use Rattle.bpf_refusals.specs.declared.told.TheConstants.{FILTER_MEMORY}
use Rattle.bpf_host_calls.specs.Told.{refusal_of}
use Rattle.bpf_host_calls.specs.declared.answers.BpfRefusal.{BpfRefusal}
use Rattle.bpf_host_calls.specs.declared.conversion.BpfConverted.{BpfConverted}

-- ---- what is made

-- Instructions are a filter, and bytes the image of a program that ends with what the filter answers, on each context of the form and the length,
-- if its run jumps back no more often than is wanted.
pub record IsImageOfFilter (raws : List Raw) (wanted : Wanted) (bytes : List ℕ) : Type 0 where
  pub filter : IsFilter (kind_of wanted.form) (filter_of wanted.form raws)
  pub program : List Insn
  pub is_image : IsImageOfProgram wanted.order bytes program
  pub layout : Layout
  pub form_is : layout.form ≡ wanted.form
  pub length_is : layout.length ≡ wanted.length
  pub order_is : layout.order ≡ wanted.order
  pub turns_are : layout.turns ≡ wanted.turns
  pub answers : KeepsAnswers (filter_of wanted.form raws) layout (program_in wanted.order program)

-- The bytes of a filter are those of such instructions. The text spells a certificate which certifies the image's program, for contexts of exactly so
-- many bytes, with the bound that is told.
pub record IsConvertedAs (filter_order : Order) (filter : List ℕ) (wanted : Wanted) (told : BpfConverted) (bytes text : List ℕ) : Type 0 where
  pub raws : List Raw
  pub spelled : raws_in filter_order filter ≡ Ok raws
  pub image : IsImageOfFilter raws wanted bytes
  pub image_length : told.image_len ≡ length bytes
  pub text_length : told.certificate_len ≡ length text
  pub promises : Promises wanted.order bytes text wanted.length wanted.length told.bound

-- memory was given both, and each is behind that as it was
pub record GivesConverted (filter_order : Order) (filter : List ℕ) (wanted : Wanted) (told : BpfConverted) (old_made new_made old_text new_text : List ℕ) : Type 0 where
  pub bytes : List ℕ
  pub text : List ℕ
  pub converted : IsConvertedAs filter_order filter wanted told bytes text
  pub made_is : new_made ≡ bytes ++ drop (length bytes) old_made
  pub text_is : new_text ≡ text ++ drop (length text) old_text

-- there are such, for one of which memory is too small
pub record WantsConvertedRoom (filter_order : Order) (filter : List ℕ) (wanted : Wanted) (told : BpfConverted) (old_made old_text : List ℕ) : Type 0 where
  pub bytes : List ℕ
  pub text : List ℕ
  pub converted : IsConvertedAs filter_order filter wanted told bytes text
  pub small : (length old_made < length bytes) ⊎ (length old_text < length text)

-- ---- what is refused

-- the bytes end inside of an instruction, B8
abbrev pub IsCutFilter : Order → List ℕ → BpfRefusal → Type 0
IsCutFilter filter_order filter told = (at : ℕ) × (raws_in filter_order filter ≡ Err (Part at)) × (told ≡ refusal_of (told_spelling (Part at)))

-- its instructions are no filter of this form, or no program is made of it, as is told; that memory ran out, B9, is no refusal
pub record IsUnconverted (filter_order : Order) (filter : List ℕ) (form : Form) (told : BpfRefusal) : Type 0 where
  pub raws : List Raw
  pub spelled : raws_in filter_order filter ≡ Ok raws
  pub error : FilterRefusal
  pub refused : IsRefusedFor raws form error
  pub other : (told_filter error).number ≢ FILTER_MEMORY
  pub tells : told ≡ refusal_of (told_filter error)

abbrev pub IsNotConverted : Order → List ℕ → Form → BpfRefusal → Type 0
IsNotConverted filter_order filter form told = IsCutFilter filter_order filter told ⊎ IsUnconverted filter_order filter form told
