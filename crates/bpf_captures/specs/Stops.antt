-- Which packets of a capture file are answered, and where that ends.
use Rattle.std.specs.Prelude.{◌≡◌, ◌⊎◌, ℕ, ◌+◌, Bool, List, [], ◌∷◌, length, flat_map, Option, IfSome, ⊤}
use Rattle.std.specs.Io.KnownBytes.{Consumes}
use Rattle.bpf_insn.specs.declared.order.Order.{Order}
use Rattle.bpf_captures.specs.Block.{block_of}
use Rattle.bpf_captures.specs.Capture.{Begins, BreaksOff, IsBroken, IsCapture, IsRecord, place_behind}
use Rattle.bpf_captures.specs.Taken.{IsRefusedHeader}
use Rattle.bpf_captures.specs.declared.error.CaptureError.TheVariants.{ShortRecord}
use Rattle.bpf_captures.specs.declared.error.CaptureRefusal.{CaptureRefusal}
use Rattle.bpf_captures.specs.Lines.{IsTold, value_line}
use Rattle.bpf_captures.specs.declared.answerer.BlockLayout.{BlockLayout}
use Rattle.bpf_captures.specs.declared.turn.CaptureEnd.{CaptureEnd}
use Rattle.bpf_captures.specs.declared.turn.CaptureEnd.TheVariants.{End, Refused, Failed}
use Rattle.bpf_captures.specs.declared.turn.Turn.{Turn}
use Rattle.bpf_captures.specs.declared.turn.Turn.TheVariants as turns

-- ---- one packet

-- the block of a packet
abbrev pub block_in : BlockLayout → List ℕ → List ℕ
block_in blocks packet = block_of blocks.order blocks.size packet

-- what became of the next record: its packet's block gave a number, there is none, it isn't whole, or the reader failed
abbrev pub TurnsTo : (List ℕ → ℕ → Type 0) → BlockLayout → Order → Option (List ℕ) → Option (List ℕ) → Turn → Type 0
TurnsTo gives blocks order old new (turns.Value value count) =
    (packet bytes : List ℕ) × Consumes old new bytes × IsRecord order packet bytes × (length packet ≡ count) × gives (block_in blocks packet) value
TurnsTo gives blocks order old new turns.End = IfSome old (λ text. text ≡ [])
TurnsTo gives blocks order old new turns.Broken = IfSome old (λ text. IsBroken order text)
TurnsTo gives blocks order old new turns.Failed = ⊤

-- ---- all packets

-- the refusal of a file that has no header
pub record IsHeadless (known : Option (List ℕ)) (refusal : CaptureRefusal) : Type 0 where
  pub refused : IsRefusedHeader known refusal.error
  pub packet_is : refusal.packet ≡ 0
  pub byte_is : refusal.byte ≡ 0

-- the refusal of one that ends within the record behind these packets
pub record IsBrokenOff (order : Order) (packets : List (List ℕ)) (known : Option (List ℕ)) (refusal : CaptureRefusal) : Type 0 where
  pub error_is : refusal.error ≡ ShortRecord
  pub packet_is : refusal.packet ≡ length packets + 1
  pub byte_is : refusal.byte ≡ place_behind packets
  pub breaks_off : IfSome known (λ text. BreaksOff order packets text)

-- Where answering ends behind these packets: at the end of the file, at a refusal, or where the reader fails, before the header or behind these.
abbrev pub StopsBy : Order → Option (List ℕ) → List (List ℕ) → CaptureEnd → Type 0
StopsBy order known packets End = IfSome known (λ text. IsCapture order packets text)
StopsBy order known packets (Refused refusal) = ((packets ≡ []) × IsHeadless known refusal) ⊎ IsBrokenOff order packets known refusal
StopsBy order known packets Failed = (packets ≡ []) ⊎ IfSome known (λ text. (rest : List ℕ) × Begins order packets text rest)

-- each packet's block gives its number
abbrev pub AllGive : (List ℕ → ℕ → Type 0) → BlockLayout → List (List ℕ) → List ℕ → Type 0
AllGive gives blocks [] [] = ⊤
AllGive gives blocks (packet ∷ packets) (value ∷ values) = gives (block_in blocks packet) value × AllGive gives blocks packets values
AllGive gives blocks [] (value ∷ values) = ⊥
AllGive gives blocks (packet ∷ packets) [] = ⊥

-- the first packets of a file gave these numbers, in this order, until it ended so
pub record Replayed (gives : List ℕ → ℕ → Type 0) (blocks : BlockLayout) (known : Option (List ℕ)) (stop : CaptureEnd) (values : List ℕ) : Type 0 where
  pub order : Order
  pub packets : List (List ℕ)
  pub stops : StopsBy order known packets stop
  pub given : AllGive gives blocks packets values

-- ---- what is written of them

-- A file is replayed until it ends so: its first packets gave numbers, and this holds of the text that tells them.
abbrev pub Replays : (List ℕ → ℕ → Type 0) → BlockLayout → Option (List ℕ) → Bool → (List ℕ → Type 0) → CaptureEnd → Type 0
Replays gives blocks known counts holds stop = (values : List ℕ) × (text : List ℕ) × Replayed gives blocks known stop values × IsTold counts values text × holds text

-- the same of the text that has a line for each
abbrev pub ReplaysEach : (List ℕ → ℕ → Type 0) → BlockLayout → Option (List ℕ) → (List ℕ → Type 0) → CaptureEnd → Type 0
ReplaysEach gives blocks known holds stop = (values : List ℕ) × Replayed gives blocks known stop values × holds (flat_map value_line values)
