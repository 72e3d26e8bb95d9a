-- The slots of the own frame, and to which of them accesses go. Nothing here speaks of runs.
use Rattle.std.specs.Prelude.{ℕ, ◌+◌, ◌*◌, ◌/◌, [], ◌∷◌, zero, suc, ◌==◌, ◌%◌, nat_lt, nat_le, ℤ, pos, negsuc, ◌+ℤ◌, int_le, Bool, true, ◌&&◌, ◌||◌, Option, Some, None, if◌then◌else◌}
use Rattle.bpf_insn.specs.Effects.{is_frame_pointer}
use Rattle.bpf_insn.specs.Limits.{frame_bytes}
use Rattle.bpf_insn.specs.Instruction.{byte_count}
use Rattle.bpf_insn.specs.declared.instruction.Reg.{Reg}
use Rattle.bpf_insn.specs.declared.instruction.Size.{Size}
use Rattle.bpf_kept.specs.declared.notes.Holder.{Holder}
use Rattle.bpf_kept.specs.declared.notes.Holder.TheVariants.{Slot}
use Rattle.bpf_kept.specs.declared.notes.Fact.{Fact}
use Rattle.bpf_kept.specs.declared.notes.Change.{Change}
use Rattle.bpf_kept.specs.declared.notes.Change.TheVariants.{Stored}
use Rattle.bpf_kept.specs.Terms.{Facts}

-- ---- tests and facts of slots

abbrev pub each_slot : (ℕ → Bool) → ℕ → Bool
each_slot test zero = true
each_slot test (suc n) = test n && each_slot test n

-- the facts that are noted of slots by their numbers
abbrev pub slot_facts : (ℕ → Fact) → (ℕ → Bool) → ℕ → Facts
slot_facts fact noted zero = []
slot_facts fact noted (suc n) = if noted n then fact n ∷ slot_facts fact noted n else slot_facts fact noted n

-- where an access by r10 begins, counted from the frame's first byte
abbrev pub frame_byte : ℤ → ℤ
frame_byte off = off +ℤ pos frame_bytes

abbrev pub slot_of : ℤ → Option ℕ
slot_of (pos b) = if b % 8 == 0 && nat_lt b frame_bytes then Some (b / 8) else None
slot_of (negsuc b) = None

-- The slot that an access of eight bytes by r10 goes to. Of four bytes alone, the high half of a slot with an offset isn't that of the pointer.
abbrev pub slot_at : Size → Reg → ℤ → Option ℕ
slot_at size base off = if is_frame_pointer base && byte_count size == 8 then slot_of (frame_byte off) else None

-- so many bytes from one on lie beside a slot
abbrev pub is_beside : ℤ → ℕ → ℕ → Bool
is_beside from count n = int_le (from +ℤ pos count) (pos (8 * n)) || int_le (pos (8 * n + 8)) from

-- An access of both programs to one address doesn't go to a slot. By r10 it goes where its displacement says. By another register in both it leaves
-- the lowest bytes alone, and may go anywhere else: on plain addresses a store behind its array may stay inside the frame.
abbrev pub misses : ℕ → ℕ → Reg → ℤ → Reg → ℤ → ℕ → Bool
misses left count src off base at n =
    if is_frame_pointer base then is_beside (frame_byte at) count n else if is_frame_pointer src then is_beside (frame_byte off) count n else nat_le (8 * n + 8) left

-- to which bytes of the own frame a store of both programs to one address may go
abbrev pub from_byte : ℤ → ℕ → Option Change
from_byte (pos b) count = Some (Stored b (b + count))
from_byte (negsuc b) count = None

abbrev pub reaches : ℕ → ℕ → Reg → ℤ → Reg → ℤ → Option Change
reaches left count src off base at =
    if is_frame_pointer base then from_byte (frame_byte at) count else if is_frame_pointer src then from_byte (frame_byte off) count else Some (Stored left frame_bytes)

-- It isn't of a slot that has some of these bytes. A pointer that is spilled above an array may be overwritten by a store behind the array's end.
abbrev pub is_clear : ℕ → ℕ → Option Holder → Bool
is_clear from to (Some (Slot n)) = nat_le (8 * n + 8) from || nat_le to (8 * n)
is_clear from to of = true
