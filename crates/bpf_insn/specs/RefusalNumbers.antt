-- The number of each refusal (RFC 9669, sections 3 to 5), from 1 to 10, what is told of it, and the slot that it names.
use Rattle.std.specs.Prelude.{ℕ, List, [], ◌∷◌, codes}
use Rattle.bpf_insn.specs.declared.refusal.SlotFault.{SlotFault}
use Rattle.bpf_insn.specs.declared.refusal.SlotFault.TheVariants.{Opcode, Register, Unused, Selector, Truncated, LeftOut}
use Rattle.bpf_insn.specs.declared.refusal.BuildError.{BuildError}
use Rattle.bpf_insn.specs.declared.refusal.BuildError.TheVariants.{Length, NoEncoding, Target, Memory}
use Rattle.bpf_insn.specs.declared.refusal.DecodeError.{DecodeError}
use Rattle.bpf_insn.specs.declared.refusal.DecodeError.TheVariants.{Length as BadLength, Slot, Target as BadTarget, Memory as NoMemory, Read}

abbrev pub slot_fault_number : SlotFault → ℕ
slot_fault_number Opcode = 2
slot_fault_number Register = 3
slot_fault_number (Unused fields) = 4
slot_fault_number Selector = 5
slot_fault_number Truncated = 6
slot_fault_number (LeftOut what) = 7

abbrev pub build_number : BuildError → ℕ
build_number Length = 1
build_number (NoEncoding slot) = 5
build_number (Target slot) = 8
build_number Memory = 9

abbrev pub build_slot : BuildError → ℕ
build_slot Length = 0
build_slot (NoEncoding slot) = slot
build_slot (Target slot) = slot
build_slot Memory = 0

abbrev pub decode_number : DecodeError → ℕ
decode_number BadLength = 1
decode_number (Slot slot fault) = slot_fault_number fault
decode_number (BadTarget slot) = 8
decode_number NoMemory = 9
decode_number (Read slot) = 10

-- what is told of E1 to E10, by their numbers and without the slots; there is no number 0
abbrev pub image_texts : List (List ℕ)
image_texts =
    [] ∷
    codes "length is zero, no multiple of 8, or above 524,288 bytes" ∷
    codes "unknown opcode" ∷
    codes "register above r10" ∷
    codes "unused field is not zero" ∷
    codes "undefined value of a selecting field" ∷
    codes "second slot of a wide instruction is missing" ∷
    codes "instruction is left out of this profile" ∷
    codes "target of the jump is no instruction" ∷
    codes "out of memory" ∷
    codes "reading failed" ∷
    []

abbrev pub decode_slot : DecodeError → ℕ
decode_slot BadLength = 0
decode_slot (Slot slot fault) = slot
decode_slot (BadTarget slot) = slot
decode_slot NoMemory = 0
decode_slot (Read slot) = slot
