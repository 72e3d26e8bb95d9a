-- Abstract states: what is known of the registers and of the slots of the top frame.
use Rattle.std.specs.Prelude.{◌≡◌, ℕ, ◌-◌, ◌≤◌, pos, ◌≤ℤ◌, List, [], ◌∷◌, ◌++◌, length, get_or, slice_set, take, drop, replicate, All, Bool, true, false, not, if◌then◌else◌, Option, Some, None, option_map, option_and_then}
use Rattle.bpf_insn.specs.declared.instruction.Reg.{Reg}
use Rattle.bpf_insn.specs.declared.instruction.Reg.TheVariants.{R1, R2}
use Rattle.bpf_insn.specs.Instruction.{register_number}
use Rattle.std.specs.Option.{option_map_or}
use Rattle.bpf_num.specs.Tristate.{bits_top}
use Rattle.bpf_num.specs.Interval.{interval}
use Rattle.bpf_num.specs.SignedInterval.{signed_top}
use Rattle.bpf_num.specs.Number.{Number, IsNumber, number, tighten}
use Rattle.bpf_state.specs.declared.known.RegState.{RegState}
use Rattle.bpf_state.specs.declared.known.RegState.TheVariants.{Any, Num, Ptr}
use Rattle.bpf_state.specs.declared.known.Area.{Area}
use Rattle.bpf_state.specs.declared.known.Area.TheVariants.{Context, Frame}
use Rattle.bpf_state.specs.declared.known.Pointer.{Pointer}
use Rattle.bpf_state.specs.declared.known.SlotState.{SlotState}
use Rattle.bpf_state.specs.declared.known.SlotState.TheVariants.{Bytes, Word, Spilled}
use Rattle.bpf_state.specs.declared.known.Place.{Place}
use Rattle.bpf_state.specs.declared.known.Place.TheVariants.{Register, Slot}
use Rattle.bpf_state.specs.declared.known.Tag.{Tag}

-- r0 to r10, the slots 1 to 64, and the tag of each; slot k has the eight bytes from 8 * k below the frame's end
pub record AbstractState : Type 0 where
  pub registers : List RegState
  pub slots : List SlotState
  pub register_tags : List (Option Tag)
  pub slot_tags : List (Option Tag)

-- the bounds of a pointer are in order
abbrev pub IsPointer : Pointer → Type 0
IsPointer p = p.lo ≤ℤ p.hi

abbrev pub IsRegister : RegState → Type 0
IsRegister Any = Unit {0}
IsRegister (Num n) = Unit {0}
IsRegister (Ptr p) = IsPointer p

-- eight bytes of a number are a word, so not all are in a mask
abbrev pub IsSlot : SlotState → Type 0
IsSlot (Bytes mask) = mask ≤ 254
IsSlot (Word n) = Unit {0}
IsSlot (Spilled p) = IsPointer p

-- what every state keeps
pub record IsAbstractState (s : AbstractState) : Type 0 where
  pub register_count : length s.registers ≡ 11
  pub slot_count : length s.slots ≡ 64
  pub register_tag_count : length s.register_tags ≡ 11
  pub slot_tag_count : length s.slot_tags ≡ 64
  pub registers : All IsRegister s.registers
  pub slots : All IsSlot s.slots

-- a register, or a slot from 1 to 64
abbrev pub IsPlace : Place → Type 0
IsPlace (Register r) = Unit {0}
IsPlace (Slot k) = (1 ≤ k) × (k ≤ 64)

abbrev pub register : AbstractState → Reg → RegState
register s r = get_or s.registers (register_number r) Any

abbrev pub slot : AbstractState → ℕ → SlotState
slot s k = get_or s.slots (k - 1) (Bytes 0)

abbrev pub register_tag : AbstractState → Reg → Option Tag
register_tag s r = get_or s.register_tags (register_number r) None

abbrev pub slot_tag : AbstractState → ℕ → Option Tag
slot_tag s k = get_or s.slot_tags (k - 1) None

abbrev pub tag : AbstractState → Place → Option Tag
tag s (Register r) = register_tag s r
tag s (Slot k) = slot_tag s k

-- What the laws of described states ask of a state, and what each has: its numbers are numbers, too.
abbrev pub IsAbstractRegister : RegState → Type 0
IsAbstractRegister (Num n) = IsNumber n
IsAbstractRegister value = IsRegister value

abbrev pub IsAbstractSlot : SlotState → Type 0
IsAbstractSlot (Word n) = IsNumber n
IsAbstractSlot held = IsSlot held

pub record IsAbstract (s : AbstractState) : Type 0 where
  pub eleven : length s.registers ≡ 11
  pub slots_are : length s.slots ≡ 64
  pub eleven_tags : length s.register_tags ≡ 11
  pub slot_tags_are : length s.slot_tags ≡ 64
  pub registers : (r : Reg) → IsAbstractRegister (register s r)
  pub slots : (k : ℕ) → 1 ≤ k → k ≤ 64 → IsAbstractSlot (slot s k)

abbrev pub with_register : AbstractState → Reg → RegState → AbstractState
with_register s r value = record s { registers = slice_set s.registers (register_number r) value }

abbrev pub with_slot : AbstractState → ℕ → SlotState → AbstractState
with_slot s k value = record s { slots = slice_set s.slots (k - 1) value }

abbrev pub with_tag : AbstractState → Place → Option Tag → AbstractState
with_tag s (Register r) t = record s { register_tags = slice_set s.register_tags (register_number r) t }
with_tag s (Slot k) t = record s { slot_tags = slice_set s.slot_tags (k - 1) t }

-- what a register or a slot holds, and its tag
abbrev pub put_register : Reg → RegState → Option Tag → AbstractState → AbstractState
put_register r value t s =
    record s {
      registers = slice_set s.registers (register_number r) value;
      register_tags = slice_set s.register_tags (register_number r) t;
    }

abbrev pub put_slot : ℕ → SlotState → Option Tag → AbstractState → AbstractState
put_slot k value t s =
    record s {
      slots = slice_set s.slots (k - 1) value;
      slot_tags = slice_set s.slot_tags (k - 1) t;
    }

-- what a slot holds as a whole
abbrev pub slot_value : SlotState → RegState
slot_value (Word n) = Num n
slot_value (Spilled p) = Ptr p
slot_value (Bytes m) = Any

-- a slot that holds what a register does; nothing is known of its bytes where nothing is of the register
abbrev pub value_slot : RegState → SlotState
value_slot (Num n) = Word n
value_slot (Ptr p) = Spilled p
value_slot Any = Bytes 0

-- ---- pointers

abbrev pub is_frame : Area → Bool
is_frame Context = false
is_frame Frame = true

abbrev pub same_area : Area → Area → Bool
same_area Context area = not (is_frame area)
same_area Frame area = is_frame area

-- to the start of the context, or to the frame's end
abbrev pub start_of : Area → Pointer
start_of area = record { area = area; lo = pos 0; hi = pos 0 }

-- ---- the state to begin with

abbrev pub no_tags : ℕ → List (Option Tag)
no_tags n = replicate n None

-- r10 at the frame's end, and nothing else
abbrev pub blank : AbstractState
blank =
    record {
      registers = replicate 10 Any ++ Ptr (start_of Frame) ∷ [];
      slots = replicate 64 (Bytes 0);
      register_tags = no_tags 11;
      slot_tags = no_tags 64;
    }

-- a number from one to another; the first isn't above the second, so there is one
abbrev pub from_to : ℕ → ℕ → RegState
from_to least most = option_map_or Num (tighten (number bits_top (interval least most) signed_top)) Any

-- a run begins with the context in r1 and its length, from `least` to `most`, in r2
abbrev pub first_state : ℕ → ℕ → AbstractState
first_state least most = put_register R1 (Ptr (start_of Context)) None (put_register R2 (from_to least most) None blank)

-- ---- calls

-- a callee gets r1 to r5, but no pointer into its caller's frame
abbrev pub without_frame : RegState → RegState
without_frame (Ptr p) = if is_frame p.area then Any else Ptr p
without_frame value = value

abbrev pub each_without_frame : List RegState → List RegState
each_without_frame [] = []
each_without_frame (value ∷ values) = without_frame value ∷ each_without_frame values

abbrev pub callee_state : AbstractState → AbstractState
callee_state s =
    record blank {
      registers = Any ∷ each_without_frame (take 5 (drop 1 s.registers)) ++ replicate 4 Any ++ Ptr (start_of Frame) ∷ [];
    }

-- after a call r0 is what the callee returns, r1 to r5 are gone, and the rest is kept
abbrev pub caller_state : Number → AbstractState → Option AbstractState
caller_state returned s =
    option_map
    (λ n. record s {
      registers = Num n ∷ replicate 5 Any ++ drop 6 s.registers;
      register_tags = no_tags 6 ++ drop 6 s.register_tags;
    })
    (tighten returned)

-- ---- each number tightened

abbrev pub each_if : {A : Type 0} → (A → Option A) → List A → Option (List A)
each_if f [] = Some []
each_if f (x ∷ xs) = option_and_then (λ y. option_map (λ ys. y ∷ ys) (each_if f xs)) (f x)

abbrev pub tightened_register : RegState → Option RegState
tightened_register (Num n) = option_map Num (tighten n)
tightened_register value = Some value

abbrev pub tightened_slot : SlotState → Option SlotState
tightened_slot (Word n) = option_map Word (tighten n)
tightened_slot value = Some value

-- None only if a number has no member
abbrev pub tightened : AbstractState → Option AbstractState
tightened s =
    option_and_then (λ registers.
    option_map (λ slots. record s { registers = registers; slots = slots })
    (each_if tightened_slot s.slots)) (each_if tightened_register s.registers)
