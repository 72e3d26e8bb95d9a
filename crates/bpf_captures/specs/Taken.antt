-- What is taken of a capture file, where its bytes are known, and why nothing is.
use Rattle.std.specs.Prelude.{◌≡◌, ◌≢◌, ◌<◌, ℕ, List, [], length, take, min, Option, Some, None, IfSome, ⊤}
use Rattle.std.specs.Io.KnownBytes.{Consumes}
use Rattle.bpf_insn.specs.Order.{number_of}
use Rattle.bpf_insn.specs.declared.order.Order.{Order}
use Rattle.bpf_insn.specs.declared.order.Order.TheVariants.{Little, Big}
use Rattle.bpf_captures.specs.Block.{block_of}
use Rattle.bpf_captures.specs.Capture.{IsBroken, IsHeader, IsMagic, IsRecord, header_bytes, new_form}
use Rattle.bpf_captures.specs.declared.error.CaptureError.{CaptureError}
use Rattle.bpf_captures.specs.declared.error.CaptureError.TheVariants.{ShortHeader, NewForm, OtherForm, ShortRecord, Unreadable}

-- so many bytes were passed over
abbrev pub Passes : Option (List ℕ) → Option (List ℕ) → ℕ → Type 0
Passes old new count = (bytes : List ℕ) × Consumes old new bytes × (length bytes ≡ count)

-- so many bytes were taken, and the first of them stand at the front of the room, as many as fit
abbrev pub TakesBytes : Option (List ℕ) → Option (List ℕ) → (count size : ℕ) → List ℕ → Type 0
TakesBytes old new count size room =
    (bytes : List ℕ) × Consumes old new bytes × (length bytes ≡ count) × (take (min count size) room ≡ take (min count size) bytes)

-- there are fewer, or the reader failed
abbrev pub IsCutOff : Option (List ℕ) → ℕ → CaptureError → Type 0
IsCutOff known count ShortRecord = IfSome known (λ text. length text < count)
IsCutOff known count Unreadable = ⊤
IsCutOff known count error = ⊥

-- ---- the header

abbrev pub TakesHeader : Option (List ℕ) → Option (List ℕ) → Order → Type 0
TakesHeader old new order = (header : List ℕ) × Consumes old new header × IsHeader order header

-- 24 bytes that are no header, by their first number
abbrev pub NoHeader : List ℕ → CaptureError → Type 0
NoHeader header NewForm = number_of Little 4 header ≡ new_form
NoHeader header OtherForm = (IsMagic (number_of Little 4 header) → ⊥) × (IsMagic (number_of Big 4 header) → ⊥) × (number_of Little 4 header ≢ new_form)
NoHeader header error = ⊥

abbrev pub IsRefusedHeader : Option (List ℕ) → CaptureError → Type 0
IsRefusedHeader known ShortHeader = IfSome known (λ text. length text < header_bytes)
IsRefusedHeader known NewForm = IfSome known (λ text. NoHeader (take header_bytes text) NewForm)
IsRefusedHeader known OtherForm = IfSome known (λ text. NoHeader (take header_bytes text) OtherForm)
IsRefusedHeader known ShortRecord = ⊥
IsRefusedHeader known Unreadable = ⊤

-- ---- records

-- the next record was taken; the first bytes of its packet stand at the front of the room, as many as fit; None at the end
abbrev pub TakesPacket : Order → Option (List ℕ) → Option (List ℕ) → ℕ → List ℕ → Option ℕ → Type 0
TakesPacket order old new size room None = IfSome old (λ text. text ≡ [])
TakesPacket order old new size room (Some count) =
    (packet bytes : List ℕ) × Consumes old new bytes × IsRecord order packet bytes × (length packet ≡ count)
    × (take (min count size) room ≡ take (min count size) packet)

-- the next record was taken, and the block is its packet's; None at the end
abbrev pub TakesBlock : (order block_order : Order) → Option (List ℕ) → Option (List ℕ) → (size : ℕ) → List ℕ → Option ℕ → Type 0
TakesBlock order block_order old new size block None = IfSome old (λ text. text ≡ [])
TakesBlock order block_order old new size block (Some count) =
    (packet bytes : List ℕ) × Consumes old new bytes × IsRecord order packet bytes × (length packet ≡ count) × (block ≡ block_of block_order size packet)

abbrev pub IsRefusedRecord : Order → Option (List ℕ) → CaptureError → Type 0
IsRefusedRecord order known ShortRecord = IfSome known (λ text. IsBroken order text)
IsRefusedRecord order known Unreadable = ⊤
IsRefusedRecord order known error = ⊥
