-- What was taken of a file and what is left of it, by the bytes that were read.
use Rattle.std.proofs.Common.{◌≡◌, ◌≢◌, ℕ, Bool, true, false, nat_le, ◌+◌, ◌-◌, ◌<◌, ◌≤◌, List, [], ◌∷◌, ◌++◌, length, take, drop, min, replicate, Option, Some, None, IfSome, refl, sym, ap, ◌∙◌, subst, length-append, append-nil, arith}
use Rattle.std.proofs.lemmas.Bool.Decides.{nat_tests}
use Rattle.std.proofs.lemmas.Int.{clamps}
use Rattle.std.proofs.Math.Seq.{take-append_seam, take-append-add, drop-append_seam}
use Rattle.std.proofs.lemmas.List.{append_assoc, drop_all, length-drop, length-take-le, take-append-le, take-replicate}
use Rattle.std.specs.Io.KnownBytes.{Consumes, IsAtEnd}
use Rattle.bpf_insn.specs.Order.{bytes_of, number_of}
use Rattle.bpf_insn.specs.declared.order.Order.{Order}
use Rattle.bpf_captures.specs.Capture.{AreRecords, IsBroken, RestIsThere, place_behind, records_length}
use Rattle.bpf_captures.specs.Block.{block_of}
use Rattle.bpf_captures.specs.Taken.{IsCutOff, IsRefusedRecord, Passes, TakesBytes, TakesPacket}
use Rattle.bpf_captures.specs.declared.error.CaptureError.{CaptureError}
use Rattle.bpf_captures.specs.declared.error.CaptureError.TheVariants.{ShortHeader, NewForm, OtherForm, ShortRecord, Unreadable}
use Rattle.bpf_captures.proofs.FillLemmas.{joined}

-- behind the last byte, all were taken
pub at_end : (old new : Option (List ℕ)) (got : List ℕ) → Consumes old new got → IsAtEnd new → IfSome old (λ text. text ≡ got)
at_end None new got took end = tt
at_end (Some xs) None got took end = absurd took
at_end (Some xs) (Some ys) got took end = took ∙ ap (λ z. got ++ z) end ∙ append-nil got

-- what holds of the rest holds of the whole behind what was taken
pub behind : (old mid : Option (List ℕ)) (got : List ℕ) (Q R : List ℕ → Type 0) → Consumes old mid got → IfSome mid Q → ((rest : List ℕ) → Q rest → R (got ++ rest)) → IfSome old R
behind None mid got Q R took q f = tt
behind (Some xs) None got Q R took q f = absurd took
behind (Some xs) (Some ys) got Q R took q f = subst R (sym took) (f ys q)

some_so : (o : Option (List ℕ)) (P Q : List ℕ → Type 0) → IfSome o P → ((x : List ℕ) → P x → Q x) → IfSome o Q
some_so None P Q p f = tt
some_so (Some x) P Q p f = f x p

-- a text that is shorter than a record's front
pub broken_front : (order : Order) (text : List ℕ) → length text < 16 → text ≢ [] → IsBroken order text
broken_front order text short some = record {
  some = some;
  none = λ packet bytes rest e r.
      let whole = ap (λ z. length z) e ∙ length-append bytes rest in
      let parts = ap (λ z. length z) r.bytes_are ∙ length-append r.head packet in
      let long = r.long in
      omega (arith, whole, parts, long, short);
}

-- a front, and fewer bytes than it tells
pub broken_packet : (order : Order) (head rest : List ℕ) → length head ≡ 16 → length rest < number_of order 4 (drop 8 head) → IsBroken order (head ++ rest)
broken_packet order head rest long short = record {
  some = λ e. let whole = sym (length-append head rest) ∙ ap (λ z. length z) e in omega (arith, whole, long);
  none = λ packet bytes behind e r.
      let same : head ++ rest ≡ r.head ++ (packet ++ behind) = e ∙ ap (λ z. z ++ behind) r.bytes_are ∙ append_assoc r.head packet behind in
      let sizes : length head ≡ length r.head = long ∙ sym r.long in
      let fronts : head ≡ r.head = sym (take-append_seam head rest) ∙ ap (λ z. take (length head) z) same ∙ ap (λ n. take n (r.head ++ (packet ++ behind))) sizes ∙ take-append_seam r.head (packet ++ behind) in
      let rests : rest ≡ packet ++ behind = sym (drop-append_seam head rest) ∙ ap (λ z. drop (length head) z) same ∙ ap (λ n. drop n (r.head ++ (packet ++ behind))) sizes ∙ drop-append_seam r.head (packet ++ behind) in
      let told : number_of order 4 (drop 8 head) ≡ length packet = ap (λ z. number_of order 4 (drop 8 z)) fronts ∙ r.count in
      let whole = ap (λ z. length z) rests ∙ length-append packet behind in
      omega (arith, told, whole, short);
}

-- ---- where records stand

records_are_long : (order : Order) (packets : List (List ℕ)) (records : List ℕ) → AreRecords order packets records → length records ≡ records_length packets
records_are_long order [] records h = ap (λ z. length z) h
records_are_long order (p ∷ ps) records h =
    let whole = ap (λ z. length z) h.2 ∙ length-append h.0 h.1 in
    let one = ap (λ z. length z) h.3.bytes_are ∙ length-append h.3.head p in
    let long = h.3.long in
    let more = records_are_long order ps h.1 h.4 in
    omega (arith, whole, one, long, more)

pub rest_is_there : RestIsThere
rest_is_there order packets text rest h =
    let front = h.header ++ h.records in
    let fronts = h.is_header.long in
    let records = records_are_long order packets h.records h.are_records in
    let sizes = length-append h.header h.records in
    let long : length front ≡ place_behind packets = omega (arith, fronts, records, sizes) in
    let same : text ≡ front ++ rest = h.text_is ∙ sym (append_assoc h.header h.records rest) in
    ap (λ z. drop (place_behind packets) z) same ∙ ap (λ n. drop n (front ++ rest)) (sym long) ∙ drop-append_seam front rest

-- ---- a record

-- the front of a packet was taken into the room, and the rest of it passed over
pub taken : (old mid new : Option (List ℕ)) (front room : List ℕ) (count size : ℕ) → length front ≡ min count size → Consumes old mid front → Passes mid new (count - min count size) → take (min count size) room ≡ front
    → TakesBytes old new count size room
taken old mid new front room count size long a b is =
    let whole = length-append front b.0 in
    let rest = b.2 in
    let all : length (front ++ b.0) ≡ count = omega (arith, clamps, whole, rest, long) in
    let same : take (min count size) (front ++ b.0) ≡ front = ap (λ n. take n (front ++ b.0)) (sym long) ∙ take-append_seam front b.0 in
    (front ++ b.0, joined old mid new front b.0 a b.1, all, is ∙ sym same)

-- so many bytes were taken, and there are no more
pub few : (old new : Option (List ℕ)) (got : List ℕ) (count : ℕ) → Consumes old new got → IsAtEnd new → length got < count → IfSome old (λ text. length text < count)
few old new got count took end short = some_so old (λ text. text ≡ got) (λ text. length text < count) (at_end old new got took end) (λ text e. subst (λ t. length t < count) (sym e) short)

-- so many behind a front
pub few_behind : (old mid new : Option (List ℕ)) (front : List ℕ) (passed count : ℕ) → Consumes old mid front → Passes mid new passed → IsAtEnd new → length front + passed < count → IfSome old (λ text. length text < count)
few_behind old mid new front passed count a b end short =
    let whole = length-append front b.0 in
    let rest = b.2 in
    few old new (front ++ b.0) count (joined old mid new front b.0 a b.1) end (omega (arith, whole, rest, short))

-- a whole record was taken
pub record_taken : (order : Order) (old mid new : Option (List ℕ)) (head room : List ℕ) (count size : ℕ) → length head ≡ 16 → count ≡ number_of order 4 (drop 8 head) → Consumes old mid head → TakesBytes mid new count size room
    → TakesPacket order old new size room (Some count)
record_taken order old mid new head room count size long told a b =
    (b.0, head ++ b.0, joined old mid new head b.0 a b.1, record { head = head; bytes_are = refl; long = long; count = sym told ∙ sym b.2 }, b.2, b.3)

-- there is none
pub no_record : (old new : Option (List ℕ)) (got : List ℕ) → got ≡ [] → Consumes old new got → IsAtEnd new → IfSome old (λ text. text ≡ [])
no_record old new got none took end = some_so old (λ text. text ≡ got) (λ text. text ≡ []) (at_end old new got took end) (λ text e. e ∙ none)

-- a part of a front
pub front_broken : (order : Order) (old new : Option (List ℕ)) (got : List ℕ) → length got < 16 → got ≢ [] → Consumes old new got → IsAtEnd new → IfSome old (λ text. IsBroken order text)
front_broken order old new got short some took end = some_so old (λ text. text ≡ got) (λ text. IsBroken order text) (at_end old new got took end) (λ text e. subst (λ t. IsBroken order t) (sym e) (broken_front order got short some))

-- a part of a front that stands in a room
pub front_few : (order : Order) (old new : Option (List ℕ)) (room : List ℕ) (n : ℕ) → n ≤ length room → n < 16 → 0 < n → Consumes old new (take n room) → IsAtEnd new → IfSome old (λ text. IsBroken order text)
front_few order old new room n fits short some took end =
    let long = length-take-le n room fits in
    let bare : take n room ≡ [] → ⊥ = λ e. let none = ap (λ z. length z) e in omega (arith, long, none, some) in
    front_broken order old new (take n room) (omega (arith, long, short)) bare took end

-- a front, and a part of a packet
pub packet_broken : (order : Order) (old mid : Option (List ℕ)) (head : List ℕ) (count : ℕ) → length head ≡ 16 → count ≡ number_of order 4 (drop 8 head) → Consumes old mid head → IfSome mid (λ text. length text < count) → IfSome old (λ text. IsBroken order text)
packet_broken order old mid head count long told took short =
    behind old mid head (λ text. length text < count) (λ text. IsBroken order text) took short (λ rest few. broken_packet order head rest long (subst (λ n. length rest < n) told few))

-- why the rest of a record isn't taken, and so the record
pub refused_record : (order : Order) (old mid : Option (List ℕ)) (head : List ℕ) (count : ℕ) → length head ≡ 16 → count ≡ number_of order 4 (drop 8 head) → Consumes old mid head → (error : CaptureError) → IsCutOff mid count error
    → IsRefusedRecord order old error
refused_record order old mid head count long told took ShortRecord cut = packet_broken order old mid head count long told took cut
refused_record order old mid head count long told took Unreadable cut = tt
refused_record order old mid head count long told took ShortHeader cut = absurd cut
refused_record order old mid head count long told took NewForm cut = absurd cut
refused_record order old mid head count long told took OtherForm cut = absurd cut

-- all of a list
pub all_of : (xs : List ℕ) (n : ℕ) → n ≡ length xs → take n xs ≡ xs
all_of xs n is = ap (λ k. take k xs) is ∙ ap (λ z. take (length xs) z) (sym (append-nil xs)) ∙ take-append_seam xs []

-- ---- a block

-- the room holds the packet's first bytes and nothing else
padded_cut : (packet room : List ℕ) (size : ℕ) → size ≤ length packet → take size room ≡ take size packet → take size room ++ replicate (size - size) 0 ≡ take size (packet ++ replicate size 0)
padded_cut packet room size fits is =
    let none : size - size ≡ 0 = omega arith in
    rw none (append-nil (take size room) ∙ is ∙ sym (take-append-le size packet (replicate size 0) fits))

-- the room holds all of the packet, and zeros behind it
padded_whole : (packet room : List ℕ) (size : ℕ) → length packet ≤ size → take (length packet) room ≡ take (length packet) packet → take (length packet) room ++ replicate (size - length packet) 0 ≡ take size (packet ++ replicate size 0)
padded_whole packet room size fits is =
    let all : take (length packet) packet ≡ packet = ap (λ z. take (length packet) z) (sym (append-nil packet)) ∙ take-append_seam packet [] in
    let split : size ≡ length packet + (size - length packet) = omega (arith, fits) in
    let less : size - length packet ≤ size = omega arith in
    ap (λ z. z ++ replicate (size - length packet) 0) (is ∙ all)
    ∙ ap (λ z. packet ++ z) (sym (take-replicate (size - length packet) size 0 less))
    ∙ sym (take-append-add packet (replicate size 0) (size - length packet))
    ∙ ap (λ n. take n (packet ++ replicate size 0)) (sym split)

pub padded : (packet room : List ℕ) (count size : ℕ) → length packet ≡ count → take (min count size) room ≡ take (min count size) packet
    → take (min count size) room ++ replicate (size - min count size) 0 ≡ take size (packet ++ replicate size 0)
padded packet room count size long is = go (nat_le size count) refl
  where
    go : (b : Bool) → nat_le size count ≡ b → take (min count size) room ++ replicate (size - min count size) 0 ≡ take size (packet ++ replicate size 0)
    go true e =
        let over : size ≤ count = grind (arith, nat_tests) in
        let fits : size ≤ length packet = omega (arith, over, long) in
        let kept : min count size ≡ size = omega (arith, clamps, over) in
        subst (λ k. take k room ++ replicate (size - k) 0 ≡ take size (packet ++ replicate size 0)) (sym kept) (padded_cut packet room size fits (subst (λ k. take k room ≡ take k packet) kept is))
    go false e =
        let under : count ≤ size = grind (arith, nat_tests) in
        let fits : length packet ≤ size = omega (arith, under, long) in
        let kept : min count size ≡ length packet = omega (arith, clamps, under, long) in
        subst (λ k. take k room ++ replicate (size - k) 0 ≡ take size (packet ++ replicate size 0)) (sym kept) (padded_whole packet room size fits (subst (λ k. take k room ≡ take k packet) kept is))

-- a block, from the room behind its head
pub block_made : (order : Order) (size count : ℕ) (packet room block new : List ℕ) → length packet ≡ count → drop 8 block ≡ room → length block ≡ size
    → new ≡ bytes_of order 8 count ++ (take (min count (length block - 8)) (drop 8 block) ++ replicate (length block - 8 - min count (length block - 8)) 0)
    → take (min count (size - 8)) room ≡ take (min count (size - 8)) packet → new ≡ block_of order size packet
block_made order size count packet room block new long behind sized is same =
    is ∙ ap (λ n. bytes_of order 8 count ++ (take (min count (n - 8)) (drop 8 block) ++ replicate (n - 8 - min count (n - 8)) 0)) sized
    ∙ ap (λ z. bytes_of order 8 count ++ (take (min count (size - 8)) z ++ replicate (size - 8 - min count (size - 8)) 0)) behind
    ∙ ap (λ z. bytes_of order 8 count ++ z) (padded packet room count (size - 8) long same)
    ∙ ap (λ n. bytes_of order 8 n ++ take (size - 8) (packet ++ replicate (size - 8) 0)) (sym long)

-- what stands in a block whose room was written
pub room_behind : (block room : List ℕ) → 8 ≤ length block → length room ≡ length block - 8 → drop 8 (take 8 block ++ (room ++ drop (length block - 8) (drop 8 block))) ≡ room
room_behind block room head long =
    let front = length-take-le 8 block head in
    let rest : length (drop 8 block) ≤ length block - 8 = let l = length-drop 8 block in omega (arith, l) in
    let none = drop_all (length block - 8) (drop 8 block) rest in
    let behind = room ++ drop (length block - 8) (drop 8 block) in
    ap (λ n. drop n (take 8 block ++ behind)) (sym front) ∙ drop-append_seam (take 8 block) behind ∙ ap (λ z. room ++ z) none ∙ append-nil room

pub room_sized : (block room : List ℕ) → 8 ≤ length block → length room ≡ length block - 8 → length (take 8 block ++ (room ++ drop (length block - 8) (drop 8 block))) ≡ length block
room_sized block room head long =
    let front = length-take-le 8 block head in
    let rest : length (drop 8 block) ≤ length block - 8 = let l = length-drop 8 block in omega (arith, l) in
    let none = ap (λ z. length z) (drop_all (length block - 8) (drop 8 block) rest) in
    let behind = room ++ drop (length block - 8) (drop 8 block) in
    let all = length-append (take 8 block) behind in
    let two = length-append room (drop (length block - 8) (drop 8 block)) in
    omega (arith, front, none, all, two, head, long)
