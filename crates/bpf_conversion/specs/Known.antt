-- What is known at a slot where a label can stand: r1 is the context's start, r2 how many bytes of the packet are there, r0, r3 and the cells hold
-- numbers where they are surely set, r4 behind the test of an index leads to bytes that are there, and r5 is how often a run may still jump back.
use Rattle.std.specs.Prelude.{ℕ, ◌+◌, ◌%◌, ◌==◌, min, max, Bool, false, ◌&&◌, ◌||◌, List, [], ◌∷◌, replicate, slice_set, if◌then◌else◌}
use Rattle.bpf_num.specs.Tristate.{bits_top}
use Rattle.bpf_num.specs.Interval.{interval}
use Rattle.bpf_num.specs.SignedInterval.{signed_top}
use Rattle.bpf_num.specs.Number.{number, top}
use Rattle.bpf_state.specs.State.{AbstractState, blank, start_of, no_tags}
use Rattle.bpf_state.specs.declared.known.Area.TheVariants.{Context, Frame}
use Rattle.bpf_state.specs.declared.known.RegState.{RegState}
use Rattle.bpf_state.specs.declared.known.RegState.TheVariants.{Any, Num, Ptr}
use Rattle.bpf_state.specs.declared.known.SlotState.{SlotState}
use Rattle.bpf_state.specs.declared.known.SlotState.TheVariants.{Bytes, Word}
use Rattle.bpf_classic.specs.Machine.{bytes}
use Rattle.bpf_classic.specs.declared.instruction.Classic.{Classic}
use Rattle.bpf_classic.specs.declared.instruction.Classic.TheVariants.{Cell, Index, Back}
use Rattle.bpf_classic.specs.Template.{room, is_block, known_first}
use Rattle.bpf_classic.specs.declared.layout.Layout.{Layout}
use Rattle.bpf_classic.specs.declared.layout.Annotated.{Annotated}
use Rattle.bpf_conversion.specs.declared.parts.Stretch.{Stretch}
use Rattle.bpf_conversion.specs.declared.parts.Stretch.TheVariants.{Entry, Template, Trap}

-- ---- registers

-- r1 at the context's start, r10 at the frame's end, and what is known of r0 and of r2 to r5
abbrev pub holding : RegState → RegState → RegState → RegState → RegState → List SlotState → AbstractState
holding r0 r2 r3 r4 r5 slots =
    record {
      registers = r0 ∷ Ptr (start_of Context) ∷ r2 ∷ r3 ∷ r4 ∷ r5 ∷ Any ∷ Any ∷ Any ∷ Any ∷ Ptr (start_of Frame) ∷ [];
      slots = slots;
      register_tags = no_tags 11;
      slot_tags = no_tags 64;
    }

-- a number from one to another; what its bits and its sign are follows
abbrev pub between : ℕ → ℕ → RegState
between least most = Num (number bits_top (interval least most) signed_top)

abbrev pub room_known : Layout → RegState
room_known l = between (known_first l) (room l)

-- a block's length isn't known before it is loaded, nor where it is above what a block can hold
abbrev pub entry_room : Layout → ℕ → RegState
entry_room l slot = if is_block l.form && (slot == 0 || slot == 2) then Any else room_known l

abbrev pub number_if : Bool → RegState
number_if set = if set then Num top else Any

-- the end of the bytes that are loaded at an index is tested by the third slot of the template
abbrev pub index_known : Layout → Classic → ℕ → RegState
index_known l (Index size k) offset = if offset == 3 then between (min (k + bytes size) (room l)) (room l) else Any
index_known l i offset = Any

-- behind the test of a jump back it may be done once more
abbrev pub may_turn : Classic → ℕ → Bool
may_turn (Back k) offset = offset == 1
may_turn i offset = false

abbrev pub turns_left : Layout → Bool → RegState
turns_left l more = if more then between 1 (max l.turns 1) else between 0 l.turns

abbrev pub turns_known : Layout → Classic → ℕ → RegState
turns_known l i offset = if l.loops then turns_left l (may_turn i offset) else Any

-- ---- cells

-- the entry sets each cell that may be loaded
abbrev pub cell_known : Bool → Classic → List SlotState → List SlotState
cell_known reached (Cell to cell) slots = if reached then slice_set slots (cell % 16) (Word top) else slots
cell_known reached i slots = slots

abbrev pub cells_known : List Annotated → List SlotState → List SlotState
cells_known [] slots = slots
cells_known (a ∷ rest) slots = cells_known rest (cell_known a.reached a.insn slots)

abbrev pub with_cells : List SlotState → AbstractState → AbstractState
with_cells slots s = record s { slots = slots }

abbrev pub no_cells : List SlotState
no_cells = replicate 64 (Bytes 0)

-- ---- slots

abbrev pub entry_known : Layout → ℕ → AbstractState
entry_known l slot = holding Any (entry_room l slot) Any Any Any no_cells

abbrev pub template_known : Layout → List Annotated → Annotated → ℕ → AbstractState
template_known l marked a offset =
    holding (number_if a.a) (room_known l) (number_if a.x) (index_known l a.insn offset) (turns_known l a.insn offset) (cells_known marked no_cells)

abbrev pub known_at : Layout → List Annotated → Stretch → ℕ → AbstractState
known_at l marked Entry slot = entry_known l slot
known_at l marked (Template a offset) slot = template_known l marked a offset
known_at l marked (Trap offset) slot = blank
