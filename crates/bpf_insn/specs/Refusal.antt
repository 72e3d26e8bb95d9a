-- Which bytes are no image, and which lists no program: the number and the slot of the refusal, as conditions.
-- A table gives for each opcode how its fields are used (the tables of RFC 9669, sections 3 to 5, in this project's profile).
use Rattle.std.specs.Prelude.{◌≡◌, ℕ, ◌*◌, ◌<◌, ◌%◌, ◌==◌, nat_lt, ℤ, pos, Bool, true, not, ◌&&◌, ◌||◌, ◌⊎◌, ◌≢◌, List, [], ◌∷◌, length, take, drop, slice_index, Option, Some, None, if◌then◌else◌}
use Rattle.std.specs.Ordering.{int_eq}
use Rattle.std.specs.Int.{cast_signed, w16, w32}
use Rattle.std.specs.List.{list_any, list_all}
use Rattle.bpf_insn.specs.Order.{number_of, dst_in, src_in}
use Rattle.bpf_insn.specs.Instruction.{layout, slots, FailsFirst}
use Rattle.bpf_insn.specs.declared.fields.Fields.{Fields}
use Rattle.bpf_insn.specs.Image.{image, HasEncoding, AllHaveEncoding, HasTarget}
use Rattle.bpf_insn.specs.Limits.{max_slots}
use Rattle.bpf_insn.specs.declared.order.Order.{Order}
use Rattle.bpf_insn.specs.declared.instruction.Insn.{Insn}
use Rattle.bpf_insn.specs.declared.uses.Choice.{Choice}
use Rattle.bpf_insn.specs.declared.uses.Choice.TheVariants.{Signedness, MoveBits32, MoveBits64, SwapBits, AtomicCode, Callee}
use Rattle.bpf_insn.specs.declared.uses.Use.{Use}
use Rattle.bpf_insn.specs.declared.uses.Use.TheVariants.{Used, Selects, Zero}
use Rattle.bpf_insn.specs.declared.uses.Uses.{Uses}
use Rattle.bpf_insn.specs.declared.uses.FieldSet.{FieldSet}
use Rattle.bpf_insn.specs.declared.refusal.LeftOut.{LeftOut}
use Rattle.bpf_insn.specs.declared.refusal.LeftOut.TheVariants.{Packet, Constant, Helper, KernelFunction}
use Rattle.bpf_insn.specs.declared.refusal.SlotFault.{SlotFault}
use Rattle.bpf_insn.specs.declared.refusal.SlotFault.TheVariants.{Opcode, Register, Unused, Selector, Truncated, LeftOut as IsLeftOut}
use Rattle.bpf_insn.specs.declared.refusal.BuildError.{BuildError}
use Rattle.bpf_insn.specs.declared.refusal.BuildError.TheVariants.{Length as BadCount, NoEncoding, Target as BadTarget}
use Rattle.bpf_insn.specs.declared.refusal.DecodeError.{DecodeError}
use Rattle.bpf_insn.specs.declared.refusal.DecodeError.TheVariants.{Length, Slot, Target}

-- ---- the table

-- the values of a field that selects the operation (sections 4.1, 4.2, 5.3 and 4.3.2)
abbrev pub atomic_codes : List ℕ
atomic_codes = 0x00 ∷ 0x40 ∷ 0x50 ∷ 0xa0 ∷ 0x01 ∷ 0x41 ∷ 0x51 ∷ 0xa1 ∷ 0xe1 ∷ 0xf1 ∷ []

abbrev pub choices : Choice → List ℕ
choices Signedness = 0 ∷ 1 ∷ []
choices MoveBits32 = 0 ∷ 8 ∷ 16 ∷ []
choices MoveBits64 = 0 ∷ 8 ∷ 16 ∷ 32 ∷ []
choices SwapBits = 16 ∷ 32 ∷ 64 ∷ []
choices AtomicCode = atomic_codes
choices Callee = 1 ∷ []

-- How an instruction uses its fields: a field is used, or selects the operation, or isn't used and is zero. A row gives that for its opcodes.
abbrev pub uses : Use → Use → Use → Use → Uses
uses dst src offset imm = record { dst = dst; src = src; offset = offset; imm = imm }

pub record Row : Type 0 where
  pub opcodes : List ℕ
  pub fields : Uses

abbrev pub row : List ℕ → Use → Use → Use → Use → Row
row opcodes dst src offset imm = record { opcodes = opcodes; fields = uses dst src offset imm }

abbrev pub table : List Row
table =
    -- arithmetic with a constant and with a register; its divisions and remainders, unsigned or signed; moves, plain or sign-extending
    row (0x04 ∷ 0x14 ∷ 0x24 ∷ 0x44 ∷ 0x54 ∷ 0x64 ∷ 0x74 ∷ 0xa4 ∷ 0xb4 ∷ 0xc4 ∷ 0x07 ∷ 0x17 ∷ 0x27 ∷ 0x47 ∷ 0x57 ∷ 0x67 ∷ 0x77 ∷ 0xa7 ∷ 0xb7 ∷ 0xc7 ∷ []) Used Zero Zero Used
    ∷ row (0x34 ∷ 0x94 ∷ 0x37 ∷ 0x97 ∷ []) Used Zero (Selects Signedness) Used
    ∷ row (0x0c ∷ 0x1c ∷ 0x2c ∷ 0x4c ∷ 0x5c ∷ 0x6c ∷ 0x7c ∷ 0xac ∷ 0xcc ∷ 0x0f ∷ 0x1f ∷ 0x2f ∷ 0x4f ∷ 0x5f ∷ 0x6f ∷ 0x7f ∷ 0xaf ∷ 0xcf ∷ []) Used Used Zero Zero
    ∷ row (0x3c ∷ 0x9c ∷ 0x3f ∷ 0x9f ∷ []) Used Used (Selects Signedness) Zero
    ∷ row (0xbc ∷ []) Used Used (Selects MoveBits32) Zero
    ∷ row (0xbf ∷ []) Used Used (Selects MoveBits64) Zero
    -- negation, byte swaps, the 64-bit constant
    ∷ row (0x84 ∷ 0x87 ∷ []) Used Zero Zero Zero
    ∷ row (0xd4 ∷ 0xdc ∷ 0xd7 ∷ []) Used Zero Zero (Selects SwapBits)
    ∷ row (0x18 ∷ []) Used Zero Zero Used
    -- loads, stores, atomic operations
    ∷ row (0x61 ∷ 0x69 ∷ 0x71 ∷ 0x79 ∷ 0x81 ∷ 0x89 ∷ 0x91 ∷ []) Used Used Used Zero
    ∷ row (0x62 ∷ 0x6a ∷ 0x72 ∷ 0x7a ∷ []) Used Zero Used Used
    ∷ row (0x63 ∷ 0x6b ∷ 0x73 ∷ 0x7b ∷ []) Used Used Used Zero
    ∷ row (0xc3 ∷ 0xdb ∷ []) Used Used Used (Selects AtomicCode)
    -- jumps, calls, the exit
    ∷ row (0x05 ∷ []) Zero Zero Used Zero
    ∷ row (0x06 ∷ []) Zero Zero Zero Used
    ∷ row (0x15 ∷ 0x25 ∷ 0x35 ∷ 0x45 ∷ 0x55 ∷ 0x65 ∷ 0x75 ∷ 0xa5 ∷ 0xb5 ∷ 0xc5 ∷ 0xd5 ∷ 0x16 ∷ 0x26 ∷ 0x36 ∷ 0x46 ∷ 0x56 ∷ 0x66 ∷ 0x76 ∷ 0xa6 ∷ 0xb6 ∷ 0xc6 ∷ 0xd6 ∷ []) Used Zero Used Used
    ∷ row (0x1d ∷ 0x2d ∷ 0x3d ∷ 0x4d ∷ 0x5d ∷ 0x6d ∷ 0x7d ∷ 0xad ∷ 0xbd ∷ 0xcd ∷ 0xdd ∷ 0x1e ∷ 0x2e ∷ 0x3e ∷ 0x4e ∷ 0x5e ∷ 0x6e ∷ 0x7e ∷ 0xae ∷ 0xbe ∷ 0xce ∷ 0xde ∷ []) Used Used Used Zero
    ∷ row (0x85 ∷ []) Zero (Selects Callee) Zero Used
    ∷ row (0x95 ∷ []) Zero Zero Zero Zero ∷ []

abbrev pub is_one_of : ℕ → List ℕ → Bool
is_one_of n ns = list_any (λ m. n == m) ns

-- how an instruction with this opcode uses its fields, if there is one
abbrev pub uses_in : List Row → ℕ → Option Uses
uses_in [] opcode = None
uses_in (r ∷ rows) opcode = if is_one_of opcode r.opcodes then Some r.fields else uses_in rows opcode

-- ---- the fields that stand in bytes

abbrev pub fields_in : Order → List ℕ → Fields
fields_in order bytes =
    record {
      opcode = slice_index bytes 0;
      dst = dst_in order (slice_index bytes 1);
      src = src_in order (slice_index bytes 1);
      offset = cast_signed w16 (number_of order 2 (drop 2 bytes));
      imm = cast_signed w32 (number_of order 4 (drop 4 bytes));
    }

-- ---- the refusal of the instruction whose bytes begin here, if it has one

abbrev pub is_choice : Choice → ℤ → Bool
is_choice choice z = list_any (λ value. int_eq z (pos value)) (choices choice)

abbrev pub is_selected : Use → ℤ → Bool
is_selected (Selects choice) z = is_choice choice z
is_selected Used z = true
is_selected Zero z = true

abbrev pub is_zero_if_unused : Use → ℤ → Bool
is_zero_if_unused Zero z = int_eq z (pos 0)
is_zero_if_unused (Selects choice) z = true
is_zero_if_unused Used z = true

-- the test on each field by its use
abbrev pub each_field : (Use → ℤ → Bool) → Uses → Fields → Bool
each_field test u f = test u.dst (pos f.dst) && test u.src (pos f.src) && test u.offset f.offset && test u.imm f.imm

-- opcodes and forms that this profile leaves out (sections 5.5, 5.4 and 4.3.1)
abbrev pub is_left_out : Fields → Bool
is_left_out f = is_one_of f.opcode (0x20 ∷ 0x28 ∷ 0x30 ∷ 0x40 ∷ 0x48 ∷ 0x50 ∷ []) || (f.opcode == 0x18 && not (f.src == 0)) || (f.opcode == 0x85 && is_one_of f.src (0 ∷ 2 ∷ []))

-- what such an instruction is: another 64-bit constant, the call of a helper or of a function of the kernel, or packet access
abbrev pub left_out : Fields → LeftOut
left_out f =
    if f.opcode == 0x18 then Constant
    else if f.opcode == 0x85 then (if f.src == 0 then Helper else KernelFunction)
    else Packet

abbrev pub is_wide : Fields → Bool
is_wide f = f.opcode == 0x18

-- the reserved bits, as far as there are bytes
abbrev pub reserved_is_zero : List ℕ → Bool
reserved_is_zero bytes = list_all (λ b. b == 0) (take 4 (drop 8 bytes))

-- the fields that must be zero and aren't
abbrev pub wrong_fields : Uses → Fields → Bool → FieldSet
wrong_fields u f reserved =
    record {
      dst = not (is_zero_if_unused u.dst (pos f.dst));
      src = not (is_zero_if_unused u.src (pos f.src));
      offset = not (is_zero_if_unused u.offset f.offset);
      imm = not (is_zero_if_unused u.imm f.imm);
      reserved = reserved;
    }

abbrev pub refusal_by_uses : Option Uses → Fields → List ℕ → Option SlotFault
refusal_by_uses None f bytes = Some Opcode
refusal_by_uses (Some u) f bytes =
    if nat_lt 10 f.dst || nat_lt 10 f.src then Some Register
    else if not (each_field is_selected u f) then Some Selector
    else if not (each_field is_zero_if_unused u f) || (is_wide f && not (reserved_is_zero bytes)) then Some (Unused (wrong_fields u f (is_wide f && not (reserved_is_zero bytes))))
    else if is_wide f && nat_lt (length bytes) 16 then Some Truncated
    else None

abbrev pub refusal_of_fields : Fields → List ℕ → Option SlotFault
refusal_of_fields f bytes = if is_left_out f then Some (IsLeftOut (left_out f)) else refusal_by_uses (uses_in table f.opcode) f bytes

-- the first that applies: left out, opcode, register, selector, unused, truncated
unfoldable pub refusal_here : Order → List ℕ → Option SlotFault
refusal_here order bytes = refusal_of_fields (fields_in order bytes) bytes

-- ---- the refusal of all the bytes, at its slot

abbrev pub IsBadLength : List ℕ → Type 0
IsBadLength bytes = (length bytes ≡ 0) ⊎ (length bytes % 8 ≢ 0) ⊎ (8 * max_slots < length bytes)

-- whole instructions end where this slot begins
pub record BeginsAt (order : Order) (bytes : List ℕ) (slot : ℕ) : Type 0 where
  pub before : List Insn
  pub encoding : AllHaveEncoding before
  pub ends : slots before ≡ slot
  pub bytes_before : take (8 * slot) bytes ≡ image order before
  pub inside : 8 * slot < length bytes

-- the bytes are an image but for a target
pub record MissesTarget (order : Order) (bytes : List ℕ) (slot : ℕ) : Type 0 where
  pub is : List Insn
  pub encoding : AllHaveEncoding is
  pub bytes_are : bytes ≡ image order is
  pub lowest : FailsFirst (HasTarget (layout is)) (layout is) slot

-- Why the bytes are refused: for their length; or because no instruction begins behind whole instructions; or, where the
-- whole is the image of instructions, for the lowest target. (Want of memory and a reader that fails are no faults of the bytes.)
pub data IsRefused (order : Order) (bytes : List ℕ) : DecodeError → Type 0 where
  bad_length : IsBadLength bytes → IsRefused order bytes Length
  bad_slot : {fault : SlotFault} {slot : ℕ} → ¬ (IsBadLength bytes) → BeginsAt order bytes slot → refusal_here order (drop (8 * slot) bytes) ≡ Some fault → IsRefused order bytes (Slot slot fault)
  bad_target : {slot : ℕ} → ¬ (IsBadLength bytes) → MissesTarget order bytes slot → IsRefused order bytes (Target slot)

-- ---- the refusal of a list of instructions

abbrev pub IsBadCount : List Insn → Type 0
IsBadCount is = (slots is ≡ 0) ⊎ (max_slots < slots is)

-- the length first, then the lowest instruction that has no encoding, then the lowest target
pub data IsNoProgram (is : List Insn) : BuildError → Type 0 where
  bad_count : IsBadCount is → IsNoProgram is BadCount
  no_encoding : {slot : ℕ} → ¬ (IsBadCount is) → FailsFirst (λ s i. HasEncoding i) (layout is) slot → IsNoProgram is (NoEncoding slot)
  no_target : {slot : ℕ} → ¬ (IsBadCount is) → AllHaveEncoding is → FailsFirst (HasTarget (layout is)) (layout is) slot → IsNoProgram is (BadTarget slot)
