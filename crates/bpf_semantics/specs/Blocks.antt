-- Packets in blocks: a block is a length, the packet, and padding. A state on the packet and the same state inside of the block
-- differ by where pointers into the context lead: there each is eight bytes further on.
use Rattle.std.specs.Prelude.{◌≡◌, ℕ, ◌≤◌, ℤ, pos, ◌+ℤ◌, List, length, take, drop, map, option_map}
use Rattle.bpf_insn.specs.Order.{number_of}
use Rattle.bpf_insn.specs.declared.order.Order.{Order}
use Rattle.bpf_semantics.specs.State.{Cell, StackFrame, State}
use Rattle.bpf_semantics.specs.State.Cell.{Byte, Part}
use Rattle.bpf_semantics.specs.Step.{wrapped}
use Rattle.bpf_semantics.specs.declared.value.Value.{Value}
use Rattle.bpf_semantics.specs.declared.value.Value.TheVariants.{Number, Pointer}
use Rattle.bpf_semantics.specs.declared.value.Region.{Region}
use Rattle.bpf_semantics.specs.declared.value.Region.TheVariants.{Context, Frame as FrameAt}

-- ---- blocks

-- the bytes before the packet, which tell a length
abbrev pub head_bytes : ℕ
head_bytes = 8

-- the length that they tell, in the byte order
abbrev pub told_length : Order → List ℕ → ℕ
told_length order block = number_of order head_bytes (take head_bytes block)

-- The packet that a block holds: as many bytes behind the head as that tells, or all that the block has room for.
pub record IsBlock (order : Order) (packet block : List ℕ) : Type 0 where
  pub has_head : head_bytes ≤ length block
  pub packet_is : packet ≡ take (told_length order block) (drop head_bytes block)

-- ---- the same state inside of the block

-- the offset of a pointer there
abbrev pub offset_inside : Region → ℤ → ℤ
offset_inside Context off = wrapped (off +ℤ pos head_bytes)
offset_inside (FrameAt n) off = off

abbrev pub inside_value : Value → Value
inside_value (Number n) = Number n
inside_value (Pointer region off) = Pointer region (offset_inside region off)

abbrev pub inside_cell : Cell → Cell
inside_cell (Byte b) = Byte b
inside_cell (Part i region off) = Part i region (offset_inside region off)

abbrev pub inside_frame : StackFrame → StackFrame
inside_frame frame = record { slot = frame.slot; registers = map (option_map inside_value) frame.registers; stack = map (option_map inside_cell) frame.stack }

abbrev pub inside : List ℕ → State → State
inside block s = record { top = inside_frame s.top; waiting = map inside_frame s.waiting; context = block }
