-- Images that are hardened.
use Rattle.std.specs.Prelude.{◌≡◌, ◌≢◌, ◌<◌, ◌⊎◌, ◌++◌, ◌==◌, ℕ, Bool, false, List, Option, length, drop}
use Rattle.bpf_insn.specs.Limits.{max_context, frame_bytes}
use Rattle.bpf_insn.specs.Instruction.{Instructions, slots}
use Rattle.bpf_insn.specs.Laws.{IsImageOfProgram}
use Rattle.bpf_insn.specs.Refusal.{IsRefused}
use Rattle.bpf_insn.specs.declared.order.Order.{Order}
use Rattle.bpf_insn.specs.declared.instruction.Insn.{Insn}
use Rattle.bpf_insn.specs.declared.refusal.DecodeError.{DecodeError}
use Rattle.bpf_cert.specs.View.{CertificateView}
use Rattle.bpf_check.specs.Verdicts.{program_in}
use Rattle.bpf_kept.specs.Matching.{Notes}
use Rattle.bpf_kept.specs.Shown.{Keeps}
use Rattle.bpf_kept.specs.declared.bounds.Bounds.{Bounds}
use Rattle.bpf_kept.specs.declared.mismatch.Mismatch.{Mismatch}
use Rattle.bpf_certify.specs.Evidence.{Fails}
use Rattle.bpf_infer_base.specs.HardenNumbers.{harden_slot}
use Rattle.bpf_infer_base.specs.declared.harden_error.HardenError.{HardenError}
use Rattle.bpf_infer_base.specs.declared.harden_error.HardenError.TheVariants.{Memory as NoRoomLeft}
use Rattle.bpf_host_calls.specs.Told.{TellsImage}
use Rattle.bpf_host_calls.specs.declared.answers.BpfRefusal.{BpfRefusal}
use Rattle.bpf_host_calls.specs.ToldAdvice.{TellsHardening, TellsUnshown}
use Rattle.bpf_host_calls.specs.declared.host_advice_asked.HardenAsked.{HardenAsked}

-- for contexts of `size` bytes, blocks where `padded` is 1, and runs that come to no instruction more than `turns` times and leave so many of
-- the lowest bytes of each frame to r10
abbrev pub bounds_of : (size padded turns untouched : ℕ) → Bounds
bounds_of size padded turns untouched = record { length = size; padded = padded == 1; turns = turns; untouched = untouched }

-- the same by what is asked of a hardening
abbrev pub bounds_asked : HardenAsked → Bounds
bounds_asked a = bounds_of a.size a.padded a.turns a.untouched

-- The call is refused: the order, the size, a yes or no, or how many bytes are left to r10 is out of its range.
abbrev pub IsBadHarden : ℕ → HardenAsked → Type 0
IsBadHarden order a = (1 < order) ⊎ ((max_context < a.size) ⊎ ((1 < a.padded) ⊎ ((1 < a.unproved) ⊎ (frame_bytes < a.untouched))))

-- by notes a program keeps the meaning of another one on these, and runs in the same byte order
pub record IsKeptBy (old made : Instructions) (bounds : Bounds) : Type 0 where
  pub order_is : made.order ≡ old.order
  pub notes : Notes
  pub keeps : Keeps old made notes bounds

-- bytes are the image of what the program of an image became, which keeps its meaning unless that wasn't asked for
pub record IsHardenedAs (order : Order) (image : List ℕ) (bounds : Bounds) (unproved : Bool) (bytes : List ℕ) : Type 0 where
  pub program : List Insn
  pub is_image : IsImageOfProgram order image program
  pub made : Instructions
  pub is_made : IsImageOfProgram made.order bytes made.list
  pub keeps : unproved ≡ false → IsKeptBy (program_in order program) made bounds

-- memory was given such an image of so many bytes, and is behind that as it was
abbrev pub GivesHardened : Order → List ℕ → Bounds → Bool → ℕ → List ℕ → List ℕ → Type 0
GivesHardened order image bounds unproved count old new =
    (bytes : List ℕ) × IsHardenedAs order image bounds unproved bytes × (count ≡ length bytes) × (new ≡ bytes ++ drop count old)

-- there is such an image of so many bytes, for which memory is too small
abbrev pub WantsHardenedRoom : Order → List ℕ → Bounds → Bool → ℕ → List ℕ → Type 0
WantsHardenedRoom order image bounds unproved count old = (bytes : List ℕ) × IsHardenedAs order image bounds unproved bytes × (count ≡ length bytes) × (length old < count)

-- the program of an image isn't hardened, as is told; that memory ran out is no refusal
pub record IsUnhardened (order : Order) (image : List ℕ) (told : BpfRefusal) : Type 0 where
  pub program : List Insn
  pub is_image : IsImageOfProgram order image program
  pub error : HardenError
  pub inside : harden_slot error < slots program
  pub other : error ≢ NoRoomLeft
  pub tells : TellsHardening error told

-- What it became isn't shown to keep its meaning, though that was asked for. What fails first of notes beside the certificate that was found is told.
pub record IsUnshown (old made : Instructions) (bounds : Bounds) (unproved : Bool) (told : BpfRefusal) : Type 0 where
  pub asked : unproved ≡ false
  pub found : Option CertificateView
  pub notes : Notes
  pub mismatch : Mismatch
  pub fails : Fails old made found notes bounds mismatch
  pub tells : TellsUnshown mismatch told

abbrev pub IsNotShown : Order → List ℕ → Bounds → Bool → BpfRefusal → Type 0
IsNotShown order image bounds unproved told =
    (program : List Insn) × IsImageOfProgram order image program × ((made : Instructions) × IsUnshown (program_in order program) made bounds unproved told)

-- the image is refused, or its program isn't hardened, or isn't shown to be hardened well, as is told
abbrev pub IsNotHardened : Order → List ℕ → Bounds → Bool → BpfRefusal → Type 0
IsNotHardened order image bounds unproved told =
    ((e : DecodeError) × IsRefused order image e × TellsImage e told) ⊎ IsUnhardened order image told ⊎ IsNotShown order image bounds unproved told
