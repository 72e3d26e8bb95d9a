-- The own frame: what its slots hold by the bytes of the memory, and which of them accesses go to.
use Rattle.std.proofs.Common.{◌≡◌, ℕ, zero, suc, ◌+◌, ◌-◌, ◌*◌, ◌/◌, ◌%◌, ◌^◌, ◌<◌, ◌≤◌, ◌⊎◌, ◌==◌, inl, inr, refl, sym, ap, ap₂, ◌∙◌, subst, arith, Bool, true, false, List, ◌∷◌, length, Option, Some, None, cond}
use Rattle.std.specs.Prelude.{ℤ, pos, negsuc, ◌+ℤ◌, ◌≤ℤ◌, int_le, ltb, leb, ◌&&◌, ◌||◌, not, get_or, slice_index, FitsSigned}
use Rattle.std.specs.Int.{w16}
use Rattle.std.proofs.Math.Nat.{mul-add-mod_self_right, mod-eq_of_lt}
use Rattle.std.proofs.lemmas.Bool.{and_parts, or_cases, cond-true, cond-false, cases_lt, ltb-true, lt-ltb, le-ltb, leb-true, eqb-true, eq-eqb, false≢true}
use Rattle.std.proofs.lemmas.Int.{ints}
use Rattle.std.proofs.lemmas.Nat.{div-mul-add}
use Rattle.std.proofs.lemmas.Option.{none-some, same_Some}
use Rattle.byteorder.specs.Endian.{little_from, big_from}
use Rattle.bpf_insn.specs.Arithmetic.{modulo}
use Rattle.bpf_insn.specs.Effects.{Access, access_of, is_frame_pointer}
use Rattle.bpf_insn.specs.Limits.{frame_bytes}
use Rattle.bpf_insn.specs.Instruction.{register_number, byte_count}
use Rattle.bpf_insn.specs.Order.{bytes_of, number_of}
use Rattle.bpf_insn.specs.declared.order.Order.{Order}
use Rattle.bpf_insn.specs.declared.order.Order.TheVariants.{Little, Big}
use Rattle.bpf_insn.specs.declared.instruction.Reg.{Reg}
use Rattle.bpf_insn.specs.declared.instruction.Size.{Size}
use Rattle.bpf_insn.specs.declared.instruction.Insn.{Insn}
use Rattle.bpf_semantics.specs.Flat.{FlatState, IsFlat, IsAmong, addresses, address, bytes_from, memory_with, flat_register, flat_number, flat_does}
use Rattle.bpf_semantics.proofs.FlatArith.{modulo-same}
use Rattle.bpf_semantics.proofs.FlatBytes.{number-bytes, bytes_from_small, bytes_from_are}
use Rattle.bpf_semantics.proofs.FlatBytesLaw.{flat_writes_only}
use Rattle.bpf_semantics.proofs.FlatStore.{memory_outside, memory_inside}
use Rattle.bpf_semantics.proofs.NumberLemmas.{big_below, length-bytes_of, modulo_below}
use Rattle.bpf_kept.specs.declared.notes.Holder.{Holder}
use Rattle.bpf_kept.specs.declared.notes.Holder.TheVariants.{Register, Slot, Length}
use Rattle.bpf_kept.specs.declared.notes.Change.{Change}
use Rattle.bpf_kept.specs.declared.notes.Change.TheVariants.{Stored}
use Rattle.bpf_kept.specs.Terms.{Packet, IsSeen, frame_slots, slot_number, value_in, is_noted, IsCommon}
use Rattle.bpf_kept.specs.Slots.{each_slot, frame_byte, slot_of, slot_at, is_beside, misses, is_clear, from_byte, reaches}
use Rattle.bpf_kept.specs.Rules.{Known, is_common}
use Rattle.bpf_kept.proofs.HoldsLaw.{Elsewhere}

-- the frame lies well inside of the addresses, below the context
pub record IsRoomy (start : ℕ) : Type 0 where
  pub from : 2 ^ 32 ≤ start
  pub to : start + 2 ^ 32 ≤ 2 ^ 63

-- r10 is the end of the frame
abbrev pub IsEnd : ℕ → List ℕ → Type 0
IsEnd start registers = get_or registers 10 0 ≡ (start + frame_bytes) % addresses

-- ---- tests of all slots

pub slot_passes : (test : ℕ → Bool) (n k : ℕ) → each_slot test k ≡ true → n < k → test n ≡ true
slot_passes test n zero e lt = absurd (omega arith)
slot_passes test n (suc k) e lt =
    let h = and_parts (test k) (each_slot test k) e in
    elim (cases_lt n k) [
      | inl less ↦ slot_passes test n k h.1 less
      | inr last ↦ (let same : k ≡ n = omega arith in subst (λ m. test m ≡ true) same h.0)
    ]

-- ---- bytes and numbers

pub bytes_alike : (m other : ℕ → ℕ) (a k : ℕ) → ((j : ℕ) → j < k → other ((a + j) % addresses) ≡ m ((a + j) % addresses)) → bytes_from other a k ≡ bytes_from m a k
bytes_alike m other a zero h = refl
bytes_alike m other a (suc k) h =
    let here : a + 0 ≡ a = omega arith in
    ap₂ (λ x xs. x ∷ xs) (subst (λ n. other (n % addresses) ≡ m (n % addresses)) here (h 0 (omega arith)))
    (bytes_alike m other (a + 1) k (λ j few. let later : a + suc j ≡ a + 1 + j = omega arith in subst (λ n. other (n % addresses) ≡ m (n % addresses)) later (h (suc j) (omega arith))))

byte_of : (m : ℕ → ℕ) (a k j : ℕ) → j < k → slice_index (bytes_from m a k) j ≡ m ((a + j) % addresses)
byte_of m a zero j lt = absurd (omega arith)
byte_of m a (suc k) zero lt = let here : a ≡ a + 0 = omega arith in ap (λ n. m (n % addresses)) here
byte_of m a (suc k) (suc j) lt = let later : a + 1 + j ≡ a + suc j = omega arith in byte_of m (a + 1) k j (omega arith) ∙ ap (λ n. m (n % addresses)) later

abbrev AreSmall : List ℕ → Type 0
AreSmall xs = (j : ℕ) → slice_index xs j < 256

little_digits : (i n : ℕ) (xs ys : List ℕ) → AreSmall xs → AreSmall ys → little_from i n xs ≡ little_from i n ys → (j : ℕ) → j < n → slice_index xs (i + j) ≡ slice_index ys (i + j)
little_digits i zero xs ys hx hy e j lt = absurd (omega arith)
little_digits i (suc n) xs ys hx hy e zero lt =
    let both : slice_index xs i + 256 * little_from (suc i) n xs ≡ slice_index ys i + 256 * little_from (suc i) n ys = e in
    let a = hx i in
    let b = hy i in
    let here : i + 0 ≡ i = omega arith in
    let same : slice_index xs i ≡ slice_index ys i = omega arith in
    subst (λ k. slice_index xs k ≡ slice_index ys k) (sym here) same
little_digits i (suc n) xs ys hx hy e (suc j) lt =
    let both : slice_index xs i + 256 * little_from (suc i) n xs ≡ slice_index ys i + 256 * little_from (suc i) n ys = e in
    let a = hx i in
    let b = hy i in
    let later : suc i + j ≡ i + suc j = omega arith in
    let rest : little_from (suc i) n xs ≡ little_from (suc i) n ys = omega arith in
    subst (λ k. slice_index xs k ≡ slice_index ys k) later (little_digits (suc i) n xs ys hx hy rest j (omega arith))

big_digits : (i n : ℕ) (xs ys : List ℕ) → AreSmall xs → AreSmall ys → big_from i n xs ≡ big_from i n ys → (j : ℕ) → j < n → slice_index xs (i + j) ≡ slice_index ys (i + j)
big_digits i zero xs ys hx hy e j lt = absurd (omega arith)
big_digits i (suc n) xs ys hx hy e zero lt =
    let both : slice_index xs i * 256 ^ n + big_from (suc i) n xs ≡ slice_index ys i * 256 ^ n + big_from (suc i) n ys = e in
    let here : i + 0 ≡ i = omega arith in
    let same : slice_index xs i ≡ slice_index ys i =
    sym (div-mul-add (slice_index xs i) (256 ^ n) (big_from (suc i) n xs) (big_below (suc i) n xs hx)) ∙ ap (λ z. z / 256 ^ n) both ∙ div-mul-add (slice_index ys i) (256 ^ n) (big_from (suc i) n ys) (big_below (suc i) n ys hy) in
    subst (λ k. slice_index xs k ≡ slice_index ys k) (sym here) same
big_digits i (suc n) xs ys hx hy e (suc j) lt =
    let both : slice_index xs i * 256 ^ n + big_from (suc i) n xs ≡ slice_index ys i * 256 ^ n + big_from (suc i) n ys = e in
    let later : suc i + j ≡ i + suc j = omega arith in
    let rest : big_from (suc i) n xs ≡ big_from (suc i) n ys =
    sym (mul-add-mod_self_right (slice_index xs i) (256 ^ n) (big_from (suc i) n xs) ∙ mod-eq_of_lt (big_below (suc i) n xs hx)) ∙ ap (λ z. z % 256 ^ n) both
    ∙ mul-add-mod_self_right (slice_index ys i) (256 ^ n) (big_from (suc i) n ys) ∙ mod-eq_of_lt (big_below (suc i) n ys hy) in
    subst (λ k. slice_index xs k ≡ slice_index ys k) later (big_digits (suc i) n xs ys hx hy rest j (omega arith))

-- equal numbers have equal bytes
digits_same : (order : Order) (xs ys : List ℕ) → AreSmall xs → AreSmall ys → number_of order 8 xs ≡ number_of order 8 ys → (j : ℕ) → j < 8 → slice_index xs j ≡ slice_index ys j
digits_same Little xs ys hx hy e j lt = let here : 0 + j ≡ j = omega arith in subst (λ k. slice_index xs k ≡ slice_index ys k) here (little_digits 0 8 xs ys hx hy e j lt)
digits_same Big xs ys hx hy e j lt = let here : 0 + j ≡ j = omega arith in subst (λ k. slice_index xs k ≡ slice_index ys k) here (big_digits 0 8 xs ys hx hy e j lt)

-- ---- slots

slot_there : (order : Order) (own n : ℕ) (f : FlatState) → n < frame_slots → slot_number order own f n ≡ flat_number order f 8 (own + 8 * n)
slot_there order own n f lt = cond-true (ltb n 64) (flat_number order f 8 (own + 8 * n)) 0 (lt-ltb n 64 lt)

slot_behind : (order : Order) (own n : ℕ) (f : FlatState) → frame_slots ≤ n → slot_number order own f n ≡ 0
slot_behind order own n f le = cond-false (ltb n 64) (flat_number order f 8 (own + 8 * n)) 0 (le-ltb n 64 le)

-- a slot whose bytes are the same has the same number
pub slot_same : (order : Order) (own n : ℕ) (f g : FlatState) → IsRoomy own → ((a : ℕ) → n < frame_slots → a < addresses → IsAmong (own + 8 * n) 8 a → g.memory a ≡ f.memory a) → slot_number order own g n ≡ slot_number order own f n
slot_same order own n f g room same = elim (cases_lt n 64) [
  | inl lt ↦ slot_there order own n g lt ∙ ap (number_of order 8) (bytes_alike f.memory g.memory (own + 8 * n) 8 (λ j few. let to = room.to in same ((own + 8 * n + j) % addresses) lt (omega arith) (omega arith, omega arith))) ∙ sym (slot_there order own n f lt)
  | inr le ↦ slot_behind order own n g le ∙ sym (slot_behind order own n f le)
]

-- and the other way round
pub slot_bytes : (order : Order) (own n : ℕ) (f g : FlatState) → IsRoomy own → IsFlat f → IsFlat g → n < frame_slots → slot_number order own g n ≡ slot_number order own f n → (a : ℕ) → IsAmong (own + 8 * n) 8 a → g.memory a ≡ f.memory a
slot_bytes order own n f g room flat flat' lt e a among =
    let to = room.to in
    let low = among.0 in
    let high = among.1 in
    let first : ℕ = own + 8 * n in
    let numbers : number_of order 8 (bytes_from g.memory first 8) ≡ number_of order 8 (bytes_from f.memory first 8) = sym (slot_there order own n g lt) ∙ e ∙ slot_there order own n f lt in
    let digit = digits_same order (bytes_from g.memory first 8) (bytes_from f.memory first 8) (bytes_from_small g.memory first 8 flat'.bytes) (bytes_from_small f.memory first 8 flat.bytes) numbers (a - first) (omega arith) in
    let here : (first + (a - first)) % addresses ≡ a = omega arith in
    ap g.memory (sym here) ∙ sym (byte_of g.memory first 8 (a - first) (omega arith)) ∙ digit ∙ byte_of f.memory first 8 (a - first) (omega arith) ∙ ap f.memory here

-- ---- a number that is stored to a slot

pub slot_now : (order : Order) (own n x : ℕ) (f g : FlatState) → IsRoomy own → n < frame_slots → x < addresses → g.memory ≡ memory_with (bytes_of order 8 x) (own + 8 * n) f.memory → slot_number order own g n ≡ x
slot_now order own n x f g room lt small e =
    let to = room.to in
    let bytes : List ℕ = bytes_of order 8 x in
    let eight : length bytes ≡ 8 = length-bytes_of order 8 x in
    slot_there order own n g lt ∙ ap (λ m. number_of order 8 (bytes_from m (own + 8 * n) 8)) e
    ∙ ap (number_of order 8) (bytes_from_are (memory_with bytes (own + 8 * n) f.memory) (own + 8 * n) 8 bytes eight (omega arith) (λ j few. memory_inside bytes (own + 8 * n) f.memory (own + 8 * n + j) j (omega arith) (omega arith) refl))
    ∙ number-bytes order x small

pub byte_elsewhere : (order : Order) (own n x : ℕ) (f g : FlatState) → IsRoomy own → n < frame_slots → g.memory ≡ memory_with (bytes_of order 8 x) (own + 8 * n) f.memory → (a : ℕ) → a < addresses → (IsAmong (own + 8 * n) 8 a → ⊥) → g.memory a ≡ f.memory a
byte_elsewhere order own n x f g room lt e a small out =
    let to = room.to in
    let bytes : List ℕ = bytes_of order 8 x in
    let eight : length bytes ≡ 8 = length-bytes_of order 8 x in
    ap (λ m. m a) e ∙ memory_outside bytes (own + 8 * n) f.memory a small (omega arith) (subst (λ k. (a < own + 8 * n) ⊎ (own + 8 * n + k ≤ a)) (sym eight) beside)
  where
    beside : (a < own + 8 * n) ⊎ (own + 8 * n + 8 ≤ a)
    beside = elim (cases_lt a (own + 8 * n)) [
      | inl below ↦ inl below
      | inr low ↦ elim (cases_lt a (own + 8 * n + 8)) [ inl high ↦ absurd (out (low, high)) | inr above ↦ inr above ]
    ]

-- two slots have no byte in common
pub slots_apart : (own m n a : ℕ) → IsAmong (own + 8 * n) 8 a → IsAmong (own + 8 * m) 8 a → n ≡ m
slots_apart own m n a p q = let p0 = p.0 in let p1 = p.1 in let q0 = q.0 in let q1 = q.1 in omega arith

pub slot_elsewhere : (order : Order) (own : ℕ) (packet : Packet) (n x : ℕ) (f g : FlatState) → IsRoomy own → n < frame_slots → g.registers ≡ f.registers → g.memory ≡ memory_with (bytes_of order 8 x) (own + 8 * n) f.memory → Elsewhere (Slot n) (value_in order own packet f) (value_in order own packet g)
slot_elsewhere order own packet n x f g room lt same e None other = refl
slot_elsewhere order own packet n x f g room lt same e (Some Length) other = refl
slot_elsewhere order own packet n x f g room lt same e (Some (Register r)) other = ap (λ rs. get_or rs (register_number r) 0) same
slot_elsewhere order own packet n x f g room lt same e (Some (Slot m)) other =
    slot_same order own m f g room (λ a few small among. byte_elsewhere order own n x f g room lt e a small (λ here. differ (m == n) refl other (sym (slots_apart own m n a here among))))
  where
    differ : (b : Bool) → (m == n) ≡ b → not b ≡ true → m ≡ n → ⊥
    differ true eb h same = false≢true h
    differ false eb h same = false≢true (sym eb ∙ eq-eqb m n same)

-- ---- accesses by r10

frame_pointer_is : (r : Reg) → is_frame_pointer r ≡ true → register_number r ≡ 10
frame_pointer_is r e = eqb-true (register_number r) 10 e

end_register : (own : ℕ) (f : FlatState) (r : Reg) → IsEnd own f.registers → is_frame_pointer r ≡ true → flat_register f r ≡ (own + frame_bytes) % addresses
end_register own f r end e = ap (λ n. get_or f.registers n 0) (frame_pointer_is r e) ∙ end

-- so far from the frame's first byte
pub byte_address : (own : ℕ) (f : FlatState) (r : Reg) (off : ℤ) → IsRoomy own → IsEnd own f.registers → is_frame_pointer r ≡ true → FitsSigned w16 off → pos (address f r off) ≡ pos own +ℤ frame_byte off
byte_address own f r off room end e near =
    let from = room.from in
    let to = room.to in
    let base : flat_register f r ≡ own + frame_bytes = end_register own f r end e ∙ (omega arith) in
    ap (λ x. pos (modulo (pos x +ℤ off) addresses)) base ∙ small (own + 512) off (omega arith) (omega arith) near ∙ regroup own off
  where
    small : (x : ℕ) (off : ℤ) → 2 ^ 32 ≤ x → x + 2 ^ 31 ≤ addresses → FitsSigned w16 off → pos (modulo (pos x +ℤ off) addresses) ≡ pos x +ℤ off
    small x off from to near =
        let s = modulo-same (pos x +ℤ off) in
        let e = s.same in
        let b = modulo_below (pos x +ℤ off) in
        omega (arith, ints)

    regroup : (own : ℕ) (off : ℤ) → pos (own + 512) +ℤ off ≡ pos own +ℤ (off +ℤ pos 512)
    regroup own off = omega (arith, ints)

pub record IsSlotAccess (own n : ℕ) (size : Size) (r : Reg) (off : ℤ) : Type 0 where
  pub small : n < frame_slots
  pub eight : byte_count size ≡ 8
  pub pointer : is_frame_pointer r ≡ true
  pub byte : frame_byte off ≡ pos (8 * n)

slot_of_is : (z : ℤ) (n : ℕ) → slot_of z ≡ Some n → (n < frame_slots) × (z ≡ pos (8 * n))
slot_of_is (pos b) n e = by_test (b % 8 == 0 && ltb b 512) refl e
  where
    by_test : (c : Bool) → (b % 8 == 0 && ltb b 512) ≡ c → cond c (Some (b / 8)) None ≡ Some n → (n < frame_slots) × (pos b ≡ pos (8 * n))
    by_test false ec h = absurd (none-some _ h)
    by_test true ec h =
        let p = and_parts (b % 8 == 0) (ltb b 512) ec in
        let whole : b % 8 ≡ 0 = eqb-true (b % 8) 0 p.0 in
        let low : b < 512 = ltb-true b 512 p.1 in
        let is : b / 8 ≡ n = same_Some (b / 8) n h in
        (omega arith, ap pos (omega arith))
slot_of_is (negsuc b) n e = absurd (none-some _ e)

pub slot_access : (own n : ℕ) (size : Size) (r : Reg) (off : ℤ) → slot_at size r off ≡ Some n → IsSlotAccess own n size r off
slot_access own n size r off e = by_test (is_frame_pointer r && byte_count size == 8) refl e
  where
    by_test : (c : Bool) → (is_frame_pointer r && byte_count size == 8) ≡ c → cond c (slot_of (frame_byte off)) None ≡ Some n → IsSlotAccess own n size r off
    by_test false ec h = absurd (none-some _ h)
    by_test true ec h =
        let p = and_parts (is_frame_pointer r) (byte_count size == 8) ec in
        let s = slot_of_is (frame_byte off) n h in
        record { small = s.0; eight = eqb-true (byte_count size) 8 p.1; pointer = p.0; byte = s.1 }

pub slot_address : (own n : ℕ) (size : Size) (f : FlatState) (r : Reg) (off : ℤ) → IsRoomy own → IsEnd own f.registers → FitsSigned w16 off → IsSlotAccess own n size r off → address f r off ≡ own + 8 * n
slot_address own n size f r off room end near s =
    let at : pos (address f r off) ≡ pos own +ℤ pos (8 * n) = byte_address own f r off room end s.pointer near ∙ ap (λ z. pos own +ℤ z) s.byte in
    omega (arith, ints)

-- ---- which slots an access doesn't go to

le_of : (a b : ℤ) → int_le a b ≡ true → a ≤ℤ b
le_of a b e = omega (arith, ints)

beside_is : (own a b n count j : ℕ) (from : ℤ) → IsRoomy own → pos a ≡ pos own +ℤ from → b ≡ (a + j) % addresses → a < addresses → count ≤ 8 → j < count → negsuc (2 ^ 20) ≤ℤ from → from ≤ℤ pos (2 ^ 20) → is_beside from count n ≡ true → IsAmong (own + 8 * n) 8 b → ⊥
beside_is own a b n count j from room at is small few lt low high e among =
    let r0 = room.from in
    let r1 = room.to in
    let p0 = among.0 in
    let p1 = among.1 in
    elim (or_cases (int_le (from +ℤ pos count) (pos (8 * n))) (int_le (pos (8 * n + 8)) from) e) [
      | inl below ↦ (let h = le_of (from +ℤ pos count) (pos (8 * n)) below in absurd (omega (arith, ints)))
      | inr above ↦ (let h = le_of (pos (8 * n + 8)) from above in absurd (omega (arith, ints)))
    ]

pub near_byte : (off : ℤ) → FitsSigned w16 off → (negsuc (2 ^ 20) ≤ℤ frame_byte off) × (frame_byte off ≤ℤ pos (2 ^ 20))
near_byte off near = (omega (arith, ints), omega (arith, ints))

-- by r10
pub beside_slot : (own n count j : ℕ) (f : FlatState) (r : Reg) (off : ℤ) → IsRoomy own → IsEnd own f.registers → is_frame_pointer r ≡ true → FitsSigned w16 off → count ≤ 8 → j < count → is_beside (frame_byte off) count n ≡ true
    → IsAmong (own + 8 * n) 8 ((address f r off + j) % addresses) → ⊥
beside_slot own n count j f r off room end pointer near few lt e among =
    let at = byte_address own f r off room end pointer near in
    let bounds = near_byte off near in
    let small : address f r off < addresses = modulo_below (pos (flat_register f r) +ℤ off) in
    beside_is own (address f r off) ((address f r off + j) % addresses) n count j (frame_byte off) room at refl small few lt bounds.0 bounds.1 e among

-- Accesses of both programs to one address. By other registers than r10 they leave so many of the lowest bytes alone.
pub record IsAccess (own left count : ℕ) (src base : Reg) (off at : ℤ) (f g : FlatState) : Type 0 where
  pub room : IsRoomy own
  pub end : IsEnd own f.registers
  pub new_end : IsEnd own g.registers
  pub near : FitsSigned w16 off
  pub new_near : FitsSigned w16 at
  pub few : count ≤ 8
  pub same : address g base at ≡ address f src off
  pub leaves : is_frame_pointer base ≡ false → is_frame_pointer src ≡ false → (j : ℕ) → j < count → IsAmong own left ((address f src off + j) % addresses) → ⊥

pub missed : (own left count n j : ℕ) (src base : Reg) (off at : ℤ) (f g : FlatState) → IsAccess own left count src base off at f g → j < count → misses left count src off base at n ≡ true → IsAmong (own + 8 * n) 8 ((address f src off + j) % addresses) → ⊥
missed own left count n j src base off at f g x lt e among = by_base (is_frame_pointer base) refl e
  where
    by_left : is_frame_pointer base ≡ false → is_frame_pointer src ≡ false → leb (8 * n + 8) left ≡ true → ⊥
    by_left eb es h =
        let le : 8 * n + 8 ≤ left = leb-true (8 * n + 8) left h in
        let p0 = among.0 in
        let p1 = among.1 in
        x.leaves eb es j lt (omega arith, omega arith)

    by_src : is_frame_pointer base ≡ false → (c : Bool) → is_frame_pointer src ≡ c → cond c (is_beside (frame_byte off) count n) (leb (8 * n + 8) left) ≡ true → ⊥
    by_src eb true ec h = beside_slot own n count j f src off x.room x.end ec x.near x.few lt h among
    by_src eb false ec h = by_left eb ec h

    by_base : (c : Bool) → is_frame_pointer base ≡ c → cond c (is_beside (frame_byte at) count n) (cond (is_frame_pointer src) (is_beside (frame_byte off) count n) (leb (8 * n + 8) left)) ≡ true → ⊥
    by_base true ec h = beside_slot own n count j g base at x.room x.new_end ec x.new_near x.few lt h (subst (λ z. IsAmong (own + 8 * n) 8 ((z + j) % addresses)) (sym x.same) among)
    by_base false ec h = by_src ec (is_frame_pointer src) refl h

-- bytes at a common access are the same
pub access_common : (order : Order) (known : Known) (own : ℕ) (packet : Packet) (count : ℕ) (src base : Reg) (off at : ℤ) (f g : FlatState) → IsAccess own known.left count src base off at f g → ((j : ℕ) → j < count → IsSeen own packet ((address f src off + j) % addresses)) → IsCommon own packet known.apart f g → is_common known count src off base at ≡ true → bytes_from g.memory (address g base at) count ≡ bytes_from f.memory (address f src off) count
unfolding is_common
access_common order known own packet count src base off at f g x seen common e =
    subst (λ z. bytes_from g.memory z count ≡ bytes_from f.memory (address f src off) count) (sym x.same)
    (bytes_alike f.memory g.memory (address f src off) count (λ j lt. common ((address f src off + j) % addresses) (omega arith) (seen j lt) (λ apart.
    let n : ℕ = apart.0 in
    let here = slot_passes (λ n. not (is_noted known.apart n) || misses known.left count src off base at n) n 64 e apart.1 in
    missed own known.left count n j src base off at f g x lt (noted (is_noted known.apart n) (misses known.left count src off base at n) apart.2 here) apart.3)))
  where
    noted : (a b : Bool) → a ≡ true → (not a || b) ≡ true → b ≡ true
    noted true b e h = h
    noted false b e h = absurd (false≢true e)

-- ---- what a store to one address leaves

pub clear_kept : (order : Order) (own : ℕ) (packet : Packet) (from to : ℕ) (f g : FlatState) → IsRoomy own → g.registers ≡ f.registers → ((a : ℕ) → a < addresses → IsAmong own 512 a → (a < own + from) ⊎ (own + to ≤ a) → g.memory a ≡ f.memory a)
    → (of : Option Holder) → is_clear from to of ≡ true → value_in order own packet g of ≡ value_in order own packet f of
clear_kept order own packet from to f g room same kept None e = refl
clear_kept order own packet from to f g room same kept (Some Length) e = refl
clear_kept order own packet from to f g room same kept (Some (Register r)) e = ap (λ rs. get_or rs (register_number r) 0) same
clear_kept order own packet from to f g room same kept (Some (Slot n)) e =
    slot_same order own n f g room (λ a few small among. let p0 = among.0 in let p1 = among.1 in kept a small (omega arith, omega arith) (elim (or_cases (leb (8 * n + 8) from) (leb to (8 * n)) e) [
      | inl below ↦ (let le : 8 * n + 8 ≤ from = leb-true (8 * n + 8) from below in inl (omega arith))
      | inr above ↦ (let le : to ≤ 8 * n = leb-true to (8 * n) above in inr (omega arith))
    ]))

-- a store of both to one address goes to no other byte of the frame than the change says
pub record Reaches (own left count : ℕ) (src : Reg) (off : ℤ) (f : FlatState) (change : Change) : Type 0 where
  pub from : ℕ
  pub to : ℕ
  pub is : change ≡ Stored from to
  pub bytes : (a j : ℕ) → j < count → a ≡ (address f src off + j) % addresses → IsAmong own 512 a → (a < own + from) ⊎ (own + to ≤ a) → ⊥

from_byte_is : (z : ℤ) (count : ℕ) (change : Change) → from_byte z count ≡ Some change → (b : ℕ) × (z ≡ pos b) × (change ≡ Stored b (b + count))
from_byte_is (pos b) count change e = (b, refl, sym (same_Some (Stored b (b + count)) change e))
from_byte_is (negsuc b) count change e = absurd (none-some _ e)

-- by r10
pointer_reaches : (own left count : ℕ) (src r : Reg) (off at : ℤ) (f g : FlatState) (change : Change) → IsRoomy own → IsEnd own g.registers → is_frame_pointer r ≡ true → FitsSigned w16 at → count ≤ 8 → address g r at ≡ address f src off → from_byte (frame_byte at) count ≡ Some change → Reaches own left count src off f change
pointer_reaches own left count src r off at f g change room end pointer near few same e =
    let x = from_byte_is (frame_byte at) count change e in
    let there : pos (address g r at) ≡ pos own +ℤ pos x.0 = byte_address own g r at room end pointer near ∙ ap (λ z. pos own +ℤ z) x.1 in
    let little : x.0 ≤ 2 ^ 20 = limit (frame_byte at) x.0 x.1 (near_byte at near).1 in
    record { from = x.0; to = x.0 + count; is = x.2; bytes = λ a j lt touched among out. between x.0 (address g r at) a j little there (touched ∙ ap (λ z. (z + j) % addresses) (sym same)) lt among out }
  where
    limit : (z : ℤ) (b : ℕ) → z ≡ pos b → z ≤ℤ pos (2 ^ 20) → b ≤ 2 ^ 20
    limit z b is le = omega (arith, ints)

    outside : (b t a j : ℕ) → b ≤ 2 ^ 20 → t ≡ own + b → a ≡ (t + j) % addresses → j < count → own ≤ a → a < own + 512 → (a < own + b) ⊎ (own + (b + count) ≤ a) → ⊥
    outside b t a j little is touched lt low high (inl below) = let r1 = room.to in absurd (omega arith)
    outside b t a j little is touched lt low high (inr above) = let r1 = room.to in absurd (omega arith)

    between : (b t a j : ℕ) → b ≤ 2 ^ 20 → pos t ≡ pos own +ℤ pos b → a ≡ (t + j) % addresses → j < count → IsAmong own 512 a → (a < own + b) ⊎ (own + (b + count) ≤ a) → ⊥
    between b t a j little there touched lt among out =
        let r0 = room.from in
        let r1 = room.to in
        let p0 = among.0 in
        let p1 = among.1 in
        let is : t ≡ own + b = omega (arith, ints) in
        outside b t a j little is touched lt p0 p1 out

pub reach_is : (own left count : ℕ) (src base : Reg) (off at : ℤ) (f g : FlatState) (change : Change) → IsAccess own left count src base off at f g → reaches left count src off base at ≡ Some change → Reaches own left count src off f change
reach_is own left count src base off at f g change x e = by_base (is_frame_pointer base) refl e
  where
    by_src : is_frame_pointer base ≡ false → (c : Bool) → is_frame_pointer src ≡ c → cond c (from_byte (frame_byte off) count) (Some (Stored left frame_bytes)) ≡ Some change → Reaches own left count src off f change
    by_src eb true ec h = pointer_reaches own left count src src off off f f change x.room x.end ec x.near x.few refl h
    by_src eb false ec h =
        record {
          from = left;
          to = frame_bytes;
          is = sym (same_Some (Stored left frame_bytes) change h);
          bytes = λ a j lt touched among out. elim out [
            | inl below ↦ (let p0 = among.0 in x.leaves eb ec j lt (subst (λ z. IsAmong own left z) touched (omega arith, omega arith)))
            | inr above ↦ (let p1 = among.1 in absurd (omega arith))
          ];
        }

    by_base : (c : Bool) → is_frame_pointer base ≡ c → cond c (from_byte (frame_byte at) count) (cond (is_frame_pointer src) (from_byte (frame_byte off) count) (Some (Stored left frame_bytes))) ≡ Some change → Reaches own left count src off f change
    by_base true ec h = pointer_reaches own left count src base off at f g change x.room x.new_end ec x.new_near x.few x.same h
    by_base false ec h = by_src ec (is_frame_pointer src) refl h

-- a store changes no byte but those that it goes to
pub byte_kept : (order : Order) (i : Insn) (w : Access) (f g : FlatState) (a : ℕ) → flat_does order i f ≡ Some g → access_of i ≡ Some w → a < addresses → ((j : ℕ) → j < byte_count w.size → a ≡ (address f w.base w.offset + j) % addresses → ⊥) → g.memory a ≡ f.memory a
byte_kept order i w f g a e access small out =
    flat_writes_only order i f g a e small (λ other there writes touch.
    let same : w ≡ other = same_Some w other (sym access ∙ there) in
    let out' = subst (λ w. (j : ℕ) → j < byte_count w.size → a ≡ (address f w.base w.offset + j) % addresses → ⊥) same out in
    out' touch.0 touch.1 touch.2)

-- the number that an access of eight bytes by r10 loads
pub slot_loaded : (order : Order) (own n : ℕ) (size : Size) (f : FlatState) (r : Reg) (off : ℤ) → IsRoomy own → IsEnd own f.registers → FitsSigned w16 off → IsSlotAccess own n size r off → flat_number order f (byte_count size) (address f r off) ≡ slot_number order own f n
slot_loaded order own n size f r off room end near s = ap₂ (λ k a. flat_number order f k a) s.eight (slot_address own n size f r off room end near s) ∙ sym (slot_there order own n f s.small)

-- by other registers than r10 in both, accesses of both to one address leave so many of the lowest bytes of the frame alone
abbrev pub Leaves : ℕ → ℕ → Insn → Insn → FlatState → FlatState → Type 0
Leaves start left i moved f g =
    (a b : Access) (j : ℕ) → access_of i ≡ Some a → access_of moved ≡ Some b → is_frame_pointer a.base ≡ false → is_frame_pointer b.base ≡ false → address g b.base b.offset ≡ address f a.base a.offset → j < byte_count a.size → j < byte_count b.size
    → IsAmong start left ((address f a.base a.offset + j) % addresses) → ⊥

-- and stay in what the old program may come to
pub record Goes (start : ℕ) (packet : Packet) (left : ℕ) (i moved : Insn) (f g : FlatState) : Type 0 where
  pub leaves : Leaves start left i moved f g
  pub seen :
      (a b : Access) (j : ℕ) → access_of i ≡ Some a → access_of moved ≡ Some b → address g b.base b.offset ≡ address f a.base a.offset → j < byte_count a.size → j < byte_count b.size
      → IsSeen start packet ((address f a.base a.offset + j) % addresses)
