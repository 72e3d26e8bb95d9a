-- What is read of an image (RFC 9669, section 3) from a reader, where its bytes are known.
use Rattle.std.specs.Prelude.{◌≡◌, ◌⊎◌, ℕ, ◌+◌, ◌*◌, ◌/◌, ◌<◌, ◌≤◌, List, length, take, Option, IfSome}
use Rattle.std.specs.Io.{StartsWith}
use Rattle.std.specs.Io.KnownBytes.{Consumes}
use Rattle.bpf_insn.specs.Limits.{max_slots}
use Rattle.bpf_insn.specs.declared.refusal.DecodeError.{DecodeError}
use Rattle.bpf_insn.specs.declared.refusal.DecodeError.TheVariants.{Memory, Read}

-- one byte more than the largest image
abbrev pub max_read : ℕ
max_read = 8 * max_slots + 1

-- all bytes of the reader, or the first of them
abbrev pub ReadsImage : Option (List ℕ) → List ℕ → Type 0
ReadsImage known got = IfSome known (λ bytes. got ≡ take max_read bytes)

-- the reader failed behind the bytes that it had given, fewer than are read at most, in the slot of the next
pub record FailsAfter (known : Option (List ℕ)) (error : DecodeError) : Type 0 where
  pub given : List ℕ
  pub begins : IfSome known (λ bytes. StartsWith bytes given)
  pub few : length given < max_read
  pub fault : error ≡ Read (length given / 8)

-- why nothing is made of them, whatever they are: want of memory, or the reader
abbrev pub IsUnreadBy : Option (List ℕ) → DecodeError → Type 0
IsUnreadBy known error = (error ≡ Memory) ⊎ FailsAfter known error

-- the same of a reader that is still there: what it gave is what it has no more
pub record FailsAt (old new : Option (List ℕ)) (error : DecodeError) : Type 0 where
  pub given : List ℕ
  pub consumed : Consumes old new given
  pub few : length given < max_read
  pub fault : error ≡ Read (length given / 8)

-- a reader gave n bytes at most
abbrev pub GivesAtMost : ℕ → Option (List ℕ) → Option (List ℕ) → Type 0
GivesAtMost n old new = (given : List ℕ) × Consumes old new given × (length given ≤ n)
