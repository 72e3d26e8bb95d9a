-- The laws that tie the definitions together (RFC 9669, section 3). Each is proved as the contract of a function of its own.
use Rattle.std.specs.Prelude.{◌≡◌, ℕ, ◌+◌, ◌*◌, ◌/◌, ◌%◌, ◌<◌, ◌≤◌, ◌↔◌, ◌⊎◌, List, [], ◌∷◌, ◌++◌, length, take, drop, slice_index, Some, None}
use Rattle.bpf_insn.specs.Instruction.{slots}
use Rattle.bpf_insn.specs.Image.{image, instruction_bytes, HasEncoding, AllHaveEncoding, IsProgram}
use Rattle.bpf_insn.specs.Refusal.{refusal_here, IsRefused, IsNoProgram}
use Rattle.bpf_insn.specs.code.Decoding.{insn_in_bytes}
use Rattle.bpf_insn.specs.declared.order.Order.{Order}
use Rattle.bpf_insn.specs.declared.order.Order.TheVariants.{Little, Big}
use Rattle.bpf_insn.specs.declared.instruction.Insn.{Insn}
use Rattle.bpf_insn.specs.declared.refusal.BuildError.{BuildError}
use Rattle.bpf_insn.specs.declared.refusal.DecodeError.{DecodeError}

abbrev pub AreBytes : List ℕ → Type 0
AreBytes bytes = (i : ℕ) → slice_index bytes i < 256

-- ---- images

-- An image has one list of instructions, whatever follows an instruction.
abbrev pub ImageIsInjective : Type 0
ImageIsInjective = (order : Order) (is js : List Insn) → AllHaveEncoding is → AllHaveEncoding js → image order is ≡ image order js → is ≡ js

abbrev pub ImageLength : Type 0
ImageLength = (order : Order) (is : List Insn) → length (image order is) ≡ 8 * slots is

-- What begins in the bytes of an instruction is that instruction, whatever follows.
abbrev pub ReadsBack : Type 0
ReadsBack = (order : Order) (i : Insn) (rest : List ℕ) → HasEncoding i → insn_in_bytes order (instruction_bytes order i ++ rest) ≡ Some i

-- ---- the two byte orders

abbrev pub other_order : Order → Order
other_order Little = Big
other_order Big = Little

abbrev pub bytes_of_slot : ℕ → List ℕ → List ℕ
bytes_of_slot k bytes = take 8 (drop (8 * k) bytes)

-- the bytes of a slot in the other order: the registers change places, the bytes of offset and imm are turned round
abbrev pub exchanged : List ℕ → List ℕ
exchanged s = slice_index s 0 ∷ (16 * (slice_index s 1 % 16) + slice_index s 1 / 16) ∷ slice_index s 3 ∷ slice_index s 2 ∷ slice_index s 7 ∷ slice_index s 6 ∷ slice_index s 5 ∷ slice_index s 4 ∷ []

-- The images of a list in both orders are as long as one another, and differ slot by slot in how the fields lie.
abbrev pub OrdersExchange : Type 0
OrdersExchange =
    (order : Order) (is : List Insn)
    → (length (image (other_order order) is) ≡ length (image order is))
    × ((k : ℕ) → k < slots is → bytes_of_slot k (image (other_order order) is) ≡ exchanged (bytes_of_slot k (image order is)))

-- ---- refusals

-- Bytes have no refusal at a slot exactly if the bytes of some instruction begin there.
pub record BeginsWithInsn (order : Order) (bytes : List ℕ) : Type 0 where
  pub insn : Insn
  pub encoding : HasEncoding insn
  pub rest : List ℕ
  pub bytes_are : bytes ≡ instruction_bytes order insn ++ rest

abbrev pub RefusalIsExact : Type 0
RefusalIsExact = (order : Order) (bytes : List ℕ) → AreBytes bytes → 8 ≤ length bytes → (refusal_here order bytes ≡ None) ↔ BeginsWithInsn order bytes

-- Bytes are the image of a program, or they are refused, for one cause at one slot, and never both. That they are one of the two is
-- what `ProgramView::of` finds out.
pub record IsImageOfProgram (order : Order) (bytes : List ℕ) (is : List Insn) : Type 0 where
  pub program : IsProgram is
  pub bytes_are : bytes ≡ image order is

abbrev pub NeverBoth : Type 0
NeverBoth = (order : Order) (bytes : List ℕ) (is : List Insn) (error : DecodeError) → IsImageOfProgram order bytes is → IsRefused order bytes error → ⊥

abbrev pub RefusedOnce : Type 0
RefusedOnce = (order : Order) (bytes : List ℕ) (error other : DecodeError) → IsRefused order bytes error → IsRefused order bytes other → error ≡ other

-- A list of instructions is a program, or it is refused, for one cause at one slot, and never both.
abbrev pub ListNeverBoth : Type 0
ListNeverBoth = (is : List Insn) (error : BuildError) → IsProgram is → IsNoProgram is error → ⊥

-- and it is one of the two
abbrev pub ListIsOneOfBoth : Type 0
ListIsOneOfBoth = (is : List Insn) → IsProgram is ⊎ ((e : BuildError) × IsNoProgram is e)

abbrev pub ListRefusedOnce : Type 0
ListRefusedOnce = (is : List Insn) (error other : BuildError) → IsNoProgram is error → IsNoProgram is other → error ≡ other
