-- Packets that were answered, one more, and where that ends.
use Rattle.std.proofs.Common.{◌≡◌, ℕ, ◌+◌, List, [], ◌∷◌, ◌++◌, length, Option, Some, None, IfSome, inl, inr, refl, sym, ap, subst, ◌∙◌, append-nil, append_assoc, length-append, arith}
use Rattle.std.specs.Prelude.{⊤}
use Rattle.std.specs.Io.KnownBytes.{Consumes}
use Rattle.bpf_insn.specs.declared.order.Order.{Order}
use Rattle.bpf_insn.specs.declared.order.Order.TheVariants.{Little}
use Rattle.bpf_captures.specs.Capture.{AreRecords, Begins, BreaksOff, IsBroken, IsCapture, IsRecord, place_behind, records_length}
use Rattle.bpf_captures.specs.Taken.{TakesHeader}
use Rattle.bpf_captures.specs.declared.error.CaptureError.TheVariants.{ShortRecord}
use Rattle.bpf_captures.specs.Stops.{AllGive, Replayed, StopsBy, TurnsTo, block_in}
use Rattle.bpf_captures.specs.declared.answerer.BlockLayout.{BlockLayout}
use Rattle.bpf_captures.specs.declared.turn.CaptureEnd.{CaptureEnd}
use Rattle.bpf_captures.specs.declared.turn.CaptureEnd.TheVariants.{End, Refused, Failed}
use Rattle.bpf_captures.specs.declared.turn.Turn.TheVariants as turns

-- a file begins with these packets, and this is left
abbrev pub Split : Order → List (List ℕ) → Option (List ℕ) → Option (List ℕ) → Type 0
Split order packets None rest = ⊤
Split order packets (Some text) None = ⊥
Split order packets (Some text) (Some rest) = Begins order packets text rest

pub record SoFar (gives : List ℕ → ℕ → Type 0) (blocks : BlockLayout) (order : Order) (known rest : Option (List ℕ)) (values : List ℕ) (count byte : ℕ) : Type 0 where
  pub packets : List (List ℕ)
  pub split : Split order packets known rest
  pub given : AllGive gives blocks packets values
  pub count_is : length packets ≡ count
  pub byte_is : byte ≡ place_behind packets

split_first : (order : Order) (known rest : Option (List ℕ)) → TakesHeader known rest order → Split order [] known rest
split_first order None rest h = tt
split_first order (Some text) None h = absurd h.1
split_first order (Some text) (Some rest) h = record { header = h.0; records = []; text_is = h.1; is_header = h.2; are_records = refl }

pub at_first : (gives : List ℕ → ℕ → Type 0) (blocks : BlockLayout) (order : Order) (known rest : Option (List ℕ)) → TakesHeader known rest order → SoFar gives blocks order known rest [] 0 24
at_first gives blocks order known rest h = record { packets = []; split = split_first order known rest h; given = tt; count_is = refl; byte_is = refl }

records_more : (order : Order) (packets : List (List ℕ)) (records packet bytes : List ℕ) → AreRecords order packets records → IsRecord order packet bytes → AreRecords order (packets ++ packet ∷ []) (records ++ bytes)
records_more order [] records packet bytes h r = (bytes, [], ap (λ z. z ++ bytes) h ∙ sym (append-nil bytes), r, refl)
records_more order (p ∷ ps) records packet bytes h r = (h.0, h.1 ++ bytes, ap (λ z. z ++ bytes) h.2 ∙ append_assoc h.0 h.1 bytes, h.3, records_more order ps h.1 packet bytes h.4 r)

split_more : (order : Order) (packets : List (List ℕ)) (known rest new : Option (List ℕ)) (packet bytes : List ℕ) → Split order packets known rest → Consumes rest new bytes → IsRecord order packet bytes → Split order (packets ++ packet ∷ []) known new
split_more order packets None rest new packet bytes h took r = tt
split_more order packets (Some text) None new packet bytes h took r = absurd h
split_more order packets (Some text) (Some rest) None packet bytes h took r = absurd took
split_more order packets (Some text) (Some rest) (Some new) packet bytes h took r = record {
  header = h.header;
  records = h.records ++ bytes;
  text_is = h.text_is ∙ ap (λ z. h.header ++ (h.records ++ z)) took ∙ ap (λ z. h.header ++ z) (sym (append_assoc h.records bytes new));
  is_header = h.is_header;
  are_records = records_more order packets h.records packet bytes h.are_records r;
}

given_more : (gives : List ℕ → ℕ → Type 0) (blocks : BlockLayout) (packets : List (List ℕ)) (values packet : List ℕ) (value : ℕ) → AllGive gives blocks packets values → gives (block_in blocks packet) value
    → AllGive gives blocks (packets ++ packet ∷ []) (values ++ value ∷ [])
given_more gives blocks [] [] packet value h one = (one, tt)
given_more gives blocks [] (v ∷ vs) packet value h one = absurd h
given_more gives blocks (p ∷ ps) [] packet value h one = absurd h
given_more gives blocks (p ∷ ps) (v ∷ vs) packet value h one = (h.0, given_more gives blocks ps vs packet value h.1 one)

length_more : (packets : List (List ℕ)) (packet : List ℕ) → records_length (packets ++ packet ∷ []) ≡ records_length packets + (16 + length packet)
length_more [] packet = omega arith
length_more (p ∷ ps) packet = let more = length_more ps packet in omega (arith, more)

place_more : (packets : List (List ℕ)) (packet : List ℕ) (byte count : ℕ) → byte ≡ place_behind packets → length packet ≡ count → byte + (16 + count) ≡ place_behind (packets ++ packet ∷ [])
place_more packets packet byte count at is = let more = length_more packets packet in omega (arith, more, at, is)

pub one_more : (gives : List ℕ → ℕ → Type 0) (blocks : BlockLayout) (order : Order) (known rest new : Option (List ℕ)) (values : List ℕ) (before byte value count : ℕ)
    → SoFar gives blocks order known rest values before byte → TurnsTo gives blocks order rest new (turns.Value value count) → SoFar gives blocks order known new (values ++ value ∷ []) (before + 1) (byte + (16 + count))
one_more gives blocks order known rest new values before byte value count h turn = record {
  packets = h.packets ++ turn.0 ∷ [];
  split = split_more order h.packets known rest new turn.0 turn.1 h.split turn.2 turn.3;
  given = given_more gives blocks h.packets values turn.0 value h.given turn.5;
  count_is = length-append h.packets (turn.0 ∷ []) ∙ ap (λ n. n + 1) h.count_is;
  byte_is = place_more h.packets turn.0 byte count h.byte_is turn.4;
}

-- ---- where it ends

whole : (order : Order) (packets : List (List ℕ)) (known rest : Option (List ℕ)) → Split order packets known rest → IfSome rest (λ text. text ≡ []) → IfSome known (λ text. IsCapture order packets text)
whole order packets None rest h end = tt
whole order packets (Some text) None h end = absurd h
whole order packets (Some text) (Some rest) h end = subst (λ r. Begins order packets text r) end h

broken : (order : Order) (packets : List (List ℕ)) (known rest : Option (List ℕ)) → Split order packets known rest → IfSome rest (λ text. IsBroken order text) → IfSome known (λ text. BreaksOff order packets text)
broken order packets None rest h bad = tt
broken order packets (Some text) None h bad = absurd h
broken order packets (Some text) (Some rest) h bad = (rest, h, bad)

first : (order : Order) (packets : List (List ℕ)) (known rest : Option (List ℕ)) → Split order packets known rest → IfSome known (λ text. (left : List ℕ) × Begins order packets text left)
first order packets None rest h = tt
first order packets (Some text) None h = absurd h
first order packets (Some text) (Some rest) h = (rest, h)

module _ (gives : List ℕ → ℕ → Type 0) (blocks : BlockLayout) where
  pub ends : (order : Order) (known rest : Option (List ℕ)) (values : List ℕ) (count byte : ℕ) → SoFar gives blocks order known rest values count byte → IfSome rest (λ text. text ≡ []) → Replayed gives blocks known End values
  ends order known rest values count byte h end = record { order = order; packets = h.packets; stops = whole order h.packets known rest h.split end; given = h.given }

  pub breaks : (order : Order) (known rest : Option (List ℕ)) (values : List ℕ) (count byte : ℕ) → SoFar gives blocks order known rest values count byte → IfSome rest (λ text. IsBroken order text)
      → Replayed gives blocks known (Refused (record { error = ShortRecord; packet = count + 1; byte = byte })) values
  breaks order known rest values count byte h bad = record {
    order = order;
    packets = h.packets;
    stops = inr (record { error_is = refl; packet_is = ap (λ n. n + 1) (sym h.count_is); byte_is = h.byte_is; breaks_off = broken order h.packets known rest h.split bad });
    given = h.given;
  }

  pub fails : (order : Order) (known rest : Option (List ℕ)) (values : List ℕ) (count byte : ℕ) → SoFar gives blocks order known rest values count byte → Replayed gives blocks known Failed values
  fails order known rest values count byte h = record { order = order; packets = h.packets; stops = inr (first order h.packets known rest h.split); given = h.given }

  -- there is no header
  pub headless : (known : Option (List ℕ)) (stop : CaptureEnd) → StopsBy Little known [] stop → Replayed gives blocks known stop []
  headless known stop h = record { order = Little; packets = []; stops = h; given = tt }

  capture_begins : (order : Order) (packets : List (List ℕ)) (known : Option (List ℕ)) → IfSome known (λ text. IsCapture order packets text) → IfSome known (λ text. (left : List ℕ) × Begins order packets text left)
  capture_begins order packets None h = tt
  capture_begins order packets (Some text) h = ([], h)

  broken_begins : (order : Order) (packets : List (List ℕ)) (known : Option (List ℕ)) → IfSome known (λ text. BreaksOff order packets text) → IfSome known (λ text. (left : List ℕ) × Begins order packets text left)
  broken_begins order packets None h = tt
  broken_begins order packets (Some text) h = (h.0, h.1)

  stops_anyway : (order : Order) (packets : List (List ℕ)) (known : Option (List ℕ)) (stop : CaptureEnd) → StopsBy order known packets stop → StopsBy order known packets Failed
  stops_anyway order packets known End h = inr (capture_begins order packets known h)
  stops_anyway order packets known (Refused refusal) (inl h) = inl h.0
  stops_anyway order packets known (Refused refusal) (inr h) = inr (broken_begins order packets known h.breaks_off)
  stops_anyway order packets known Failed h = h

  -- wherever it ended, the first packets were answered
  pub anyway : (known : Option (List ℕ)) (stop : CaptureEnd) (values : List ℕ) → Replayed gives blocks known stop values → Replayed gives blocks known Failed values
  anyway known stop values h = record { order = h.order; packets = h.packets; stops = stops_anyway h.order h.packets known stop h.stops; given = h.given }
