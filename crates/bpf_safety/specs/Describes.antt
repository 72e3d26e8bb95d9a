-- Which states of the machine an abstract state describes.
use Rattle.std.specs.Prelude.{◌≡◌, ℕ, ◌+◌, ◌-◌, ◌*◌, ◌<◌, ◌≤◌, ℤ, pos, ◌+ℤ◌, ◌≤ℤ◌, List, length, get_or, slice_get, slice_index, Option, Some, None, ⊤}
use Rattle.std.specs.Int.{bit_at}
use Rattle.bpf_insn.specs.declared.order.Order.{Order}
use Rattle.bpf_insn.specs.declared.instruction.Reg.{Reg}
use Rattle.bpf_semantics.specs.declared.value.Value.{Value}
use Rattle.bpf_semantics.specs.declared.value.Value.TheVariants.{Number as NumberValue, Pointer as PointerValue}
use Rattle.bpf_semantics.specs.declared.value.Region.{Region}
use Rattle.bpf_semantics.specs.declared.value.Region.TheVariants.{Context, Frame as FrameAt}
use Rattle.bpf_insn.specs.Order.{number_of}
use Rattle.bpf_semantics.specs.State as machine
use Rattle.bpf_semantics.specs.State.{Cell}
use Rattle.bpf_semantics.specs.State.Cell.{Byte, Part}
use Rattle.bpf_num.specs.Number.{Has}
use Rattle.bpf_state.specs.declared.known.RegState.{RegState}
use Rattle.bpf_state.specs.declared.known.RegState.TheVariants.{Any, Num, Ptr}
use Rattle.bpf_state.specs.declared.known.SlotState.{SlotState}
use Rattle.bpf_state.specs.declared.known.SlotState.TheVariants.{Bytes, Word, Spilled}
use Rattle.bpf_state.specs.declared.known.Area.{Area}
use Rattle.bpf_state.specs.declared.known.Area.TheVariants.{Context as InContext, Frame as InFrame}
use Rattle.bpf_state.specs.declared.known.Tag.{Tag}
use Rattle.bpf_state.specs.State.{AbstractState, register, register_tag, slot, slot_tag}

-- a pointer into a region, with an offset from lo to hi
abbrev pub PointsInto : Region → ℤ → ℤ → Option Value → Type 0
PointsInto region lo hi v = (offset : ℤ) × (v ≡ Some (PointerValue region offset)) × (lo ≤ℤ offset) × (offset ≤ℤ hi)

-- the region that a pointer of the top frame, which is at a depth, points into
abbrev pub region_of : ℕ → Area → Region
region_of depth InContext = Context
region_of depth InFrame = FrameAt depth

-- a register of a machine whose top frame is at a depth
abbrev pub DescribesRegister : ℕ → RegState → Option Value → Type 0
DescribesRegister depth Any v = ⊤
DescribesRegister depth (Num n) v = (x : ℕ) × (v ≡ Some (NumberValue x)) × Has n x
DescribesRegister depth (Ptr p) v = PointsInto (region_of depth p.area) p.lo p.hi v

-- the cell of byte i of a slot
abbrev pub slot_cell : machine.State → ℕ → ℕ → Option Cell
slot_cell m k i = get_or m.top.stack (machine.frame_bytes - 8 * k + i) None

-- the eight cells are the parts, in order, of a pointer into a region, with an offset from lo to hi
abbrev pub IsSpilled : Region → ℤ → ℤ → (ℕ → Option Cell) → Type 0
IsSpilled region lo hi cell =
    (offset : ℤ) × ((i : ℕ) → i < 8 → cell i ≡ Some (Part i region offset)) × (lo ≤ℤ offset) × (offset ≤ℤ hi)

-- the eight cells are the bytes of the number x
abbrev pub IsStored : Order → ℕ → (ℕ → Option Cell) → Type 0
IsStored order x cell =
    (bytes : List ℕ) × (length bytes ≡ 8) × ((i : ℕ) → i < 8 → cell i ≡ Some (Byte (slice_index bytes i))) × (x ≡ number_of order 8 bytes)

abbrev pub DescribesSlot : Order → ℕ → SlotState → (ℕ → Option Cell) → Type 0
DescribesSlot order depth (Bytes mask) cell = (i : ℕ) → i < 8 → bit_at mask i ≡ 1 → (b : ℕ) × (cell i ≡ Some (Byte b))
DescribesSlot order depth (Word n) cell = (x : ℕ) × IsStored order x cell × Has n x
DescribesSlot order depth (Spilled p) cell = IsSpilled (region_of depth p.area) p.lo p.hi cell

-- there is such a term, and x is what its place held at the label, and the offset more, as integers
abbrev pub IsTagged : List ℕ → Tag → ℕ → Type 0
IsTagged at_label t x = (n : ℕ) × (slice_get at_label t.term ≡ Some n) × (pos x ≡ pos n +ℤ t.offset)

abbrev pub TaggedRegister : List ℕ → Option Tag → Option Value → Type 0
TaggedRegister at_label None v = ⊤
TaggedRegister at_label (Some t) v = (x : ℕ) × (v ≡ Some (NumberValue x)) × IsTagged at_label t x

abbrev pub TaggedSlot : Order → List ℕ → Option Tag → (ℕ → Option Cell) → Type 0
TaggedSlot order at_label None cell = ⊤
TaggedSlot order at_label (Some t) cell = (x : ℕ) × IsStored order x cell × IsTagged at_label t x

-- a list of at least and at most so many bytes
abbrev pub LengthWithin : ℕ → ℕ → List ℕ → Type 0
LengthWithin least most context = (least ≤ length context) × (length context ≤ most)

-- The machine's context has `least` to `most` bytes, and its top frame holds what the abstract state says;
-- `at_label` is what the place of each term held at the label.
pub record Describes (order : Order) (least most : ℕ) (at_label : List ℕ) (s : AbstractState) (m : machine.State) : Type 0 where
  pub length_within : LengthWithin least most m.context
  pub registers : (r : Reg) → DescribesRegister (machine.depth m) (register s r) (machine.register m r)
  pub slots : (k : ℕ) → 1 ≤ k → k ≤ 64 → DescribesSlot order (machine.depth m) (slot s k) (slot_cell m k)
  pub register_tags : (r : Reg) → TaggedRegister at_label (register_tag s r) (machine.register m r)
  pub slot_tags : (k : ℕ) → 1 ≤ k → k ≤ 64 → TaggedSlot order at_label (slot_tag s k) (slot_cell m k)
