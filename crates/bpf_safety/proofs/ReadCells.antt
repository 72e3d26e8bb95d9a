-- What is read from the cells of known slots.
use Rattle.std.proofs.Common.{◌≡◌, ℕ, zero, suc, ◌+◌, ◌-◌, ◌*◌, ◌<◌, ◌≤◌, refl, sym, ◌∙◌, ap, subst, arith, List, [], ◌∷◌, length, get_or, set, inl, inr, Option, Some, None, Bool, true, false, min}
use Rattle.std.specs.Prelude.{take, drop, bit_and, slice_index, option_map}
use Rattle.std.specs.Int.{bit_at}
use Rattle.std.proofs.lemmas.Int.{ints, clamps}
use Rattle.std.proofs.lemmas.Bool.{false≢true, eqb-true, or_parts}
use Rattle.std.proofs.lemmas.Nat.Bits.{bit_at_and, bit_at-lt, bit_at_mask_inside}
use Rattle.bpf_insn.specs.declared.order.Order.{Order}
use Rattle.bpf_insn.specs.declared.order.Order.TheVariants.{Little, Big}
use Rattle.bpf_semantics.specs.Stuck.{first_unreadable}
use Rattle.bpf_insn.specs.Order.{number_of}
use Rattle.bpf_semantics.specs.State.{Cell, cell}
use Rattle.bpf_semantics.specs.State.Cell.{Byte}
use Rattle.bpf_semantics.specs.Memory.{bytes_in}
use Rattle.bpf_state.specs.declared.known.SlotState.{SlotState}
use Rattle.bpf_state.specs.declared.known.SlotState.TheVariants.{Bytes, Word, Spilled}
use Rattle.bpf_state.specs.Access.{any_slot, is_pointer_slot, are_known_bytes, Span, span_end, offset_in_slot, touches, touched_bytes}
use Rattle.bpf_safety.specs.Describes.{DescribesSlot, IsStored}
use Rattle.bpf_safety.proofs.TouchedCells.{LiesAt, not_touched}
use Rattle.bpf_safety.proofs.WrittenSlots.{IsByte}

-- ---- tests of slots

any_slot_at : (test : ℕ → SlotState → Bool) (k j : ℕ) (ss : List SlotState) → any_slot test k ss ≡ false → j < length ss → test (k + j) (get_or ss j (Bytes 0)) ≡ false
any_slot_at test k j [] h lt = absurd (omega arith)
any_slot_at test k zero (s ∷ ss) h lt = ap (λ n. test n s) (omega arith) ∙ (or_parts (test k s) (any_slot test (suc k) ss) h).0
any_slot_at test k (suc j) (s ∷ ss) h lt = ap (λ n. test n (get_or ss j (Bytes 0))) (omega arith) ∙ any_slot_at test (suc k) j ss (or_parts (test k s) (any_slot test (suc k) ss) h).1 (omega arith)

pub no_slot : (test : ℕ → SlotState → Bool) (k : ℕ) (ss : List SlotState) → any_slot test 1 ss ≡ false → length ss ≡ 64 → 1 ≤ k → k ≤ 64 → test k (get_or ss (k - 1) (Bytes 0)) ≡ false
no_slot test k ss h all low high = ap (λ n. test n (get_or ss (k - 1) (Bytes 0))) (omega arith) ∙ any_slot_at test 1 (k - 1) ss h (omega arith)

-- ---- cells that an access may touch

-- a cell of an access has its bit in the mask of its slot
pub has_bit : (p : Span) (c k i : ℕ) → LiesAt p c → 1 ≤ k → k ≤ 64 → i < 8 → c ≤ 512 - 8 * k + i → 512 - 8 * k + i < c + p.count → bit_at (touched_bytes p k) i ≡ 1
has_bit p c k i at low high lt l h =
    let a = at.lowest in
    let b = at.highest in
    let f : offset_in_slot k p.lowest ≤ i = omega (arith, ints, clamps) in
    let g : i < offset_in_slot k (span_end p) = omega (arith, ints, clamps) in
    bit_at_mask_inside (offset_in_slot k p.lowest) (offset_in_slot k (span_end p)) i f g

pub is_touched : (p : Span) (c k i : ℕ) → LiesAt p c → 1 ≤ k → k ≤ 64 → i < 8 → c ≤ 512 - 8 * k + i → 512 - 8 * k + i < c + p.count → touches p k ≡ true
is_touched p c k i at low high lt l h = by_test (touches p k) refl
  where
    by_test : (t : Bool) → touches p k ≡ t → touches p k ≡ true
    by_test true e = e
    by_test false e = absurd (elim (not_touched p c k at e) [ inl q ↦ omega arith | inr q ↦ omega arith ])

-- a byte whose bit is known
pub known_byte : (order : Order) (depth mask : ℕ) (held : SlotState) (cell : ℕ → Option Cell) (i : ℕ) → are_known_bytes mask held ≡ true → is_pointer_slot held ≡ false → bit_at mask i ≡ 1 → i < 8 → DescribesSlot order depth held cell → (b : ℕ) × (cell i ≡ Some (Byte b))
known_byte order depth mask (Spilled p) cell i known plain set lt d = absurd (false≢true (sym plain))
known_byte order depth mask (Word n) cell i known plain set lt d = (slice_index d.1.0 i, d.1.2 i lt)
known_byte order depth mask (Bytes m) cell i known plain set lt d = d i lt (in_both (bit_at mask i) (bit_at m i) (bit_at-lt m i) set (sym (bit_at_and mask m i) ∙ ap (λ v. bit_at v i) (eqb-true (bit_and mask m) mask known)))
  where
    in_both : (x y : ℕ) → y < 2 → x ≡ 1 → min x y ≡ x → y ≡ 1
    in_both x zero lt e f = absurd (omega arith)
    in_both x (suc y) lt e f = omega arith

-- ---- bytes that are read

pub record ReadBytes (n c : ℕ) (cells : List (Option Cell)) : Type 0 where
  pub bytes : List ℕ
  pub are : bytes_in (take n (drop c cells)) ≡ Some bytes
  pub readable : first_unreadable (take n (drop c cells)) ≡ None
  pub count : length bytes ≡ n
  pub at : (i : ℕ) → i < n → get_or cells (c + i) None ≡ Some (Byte (slice_index bytes i))
  pub fit : (i : ℕ) → slice_index bytes i < 256

drop_more : (c : ℕ) (cells : List (Option Cell)) → c < length cells → drop c cells ≡ get_or cells c None ∷ drop (suc c) cells
drop_more c [] lt = absurd (omega arith)
drop_more zero (a ∷ cells) lt = refl
drop_more (suc c) (a ∷ cells) lt = drop_more c cells (omega arith)

pub read_bytes : (n c : ℕ) (cells : List (Option Cell)) → c + n ≤ length cells → ((i : ℕ) → i < n → IsByte (get_or cells (c + i) None)) → ReadBytes n c cells
read_bytes zero c cells fits each = record { bytes = []; are = refl; readable = refl; count = refl; at = λ i lt. absurd (omega arith); fit = λ i. omega arith }
read_bytes (suc n) c cells fits each =
    let b = each 0 (omega arith) in
    let rest = read_bytes n (suc c) cells (omega arith) (λ i lt. subst (λ j. IsByte (get_or cells j None)) (omega arith) (each (suc i) (omega arith))) in
    let first : get_or cells c None ≡ Some (Byte b.byte) = ap (λ j. get_or cells j None) (omega arith) ∙ b.is in
    let front : drop c cells ≡ Some (Byte b.byte) ∷ drop (suc c) cells = drop_more c cells (omega arith) ∙ ap (λ a. a ∷ drop (suc c) cells) first in
    record {
      bytes = b.byte ∷ rest.bytes;
      are = ap (λ l. bytes_in (take (suc n) l)) front ∙ ap (λ o. option_map (λ bs. b.byte ∷ bs) o) rest.are;
      readable = ap (λ l. first_unreadable (take (suc n) l)) front ∙ rest.readable;
      count = ap suc rest.count;
      at = each_at b.byte rest.bytes first rest.at;
      fit = each_fit b.byte rest.bytes b.fits rest.fit;
    }
  where
    each_at : (b : ℕ) (bs : List ℕ) → get_or cells c None ≡ Some (Byte b) → ((i : ℕ) → i < n → get_or cells (suc c + i) None ≡ Some (Byte (slice_index bs i))) → (i : ℕ) → i < suc n → get_or cells (c + i) None ≡ Some (Byte (slice_index (b ∷ bs) i))
    each_at b bs first more zero lt = ap (λ j. get_or cells j None) (omega arith) ∙ first
    each_at b bs first more (suc i) lt = ap (λ j. get_or cells j None) (omega arith) ∙ more i (omega arith)

    each_fit : (b : ℕ) (bs : List ℕ) → b < 256 → ((i : ℕ) → slice_index bs i < 256) → (i : ℕ) → slice_index (b ∷ bs) i < 256
    each_fit b bs h more zero = h
    each_fit b bs h more (suc i) = more i

-- ---- eight bytes are one number

byte_or : Option Cell → ℕ
byte_or (Some (Byte b)) = b
byte_or c = 0

same_byte : (a b : ℕ) → Some (Byte a) ≡ Some (Byte b) → a ≡ b
unfolding byte_or
same_byte a b e = ap byte_or e

same_eight : (order : Order) (xs ys : List ℕ) → ((i : ℕ) → i < 8 → slice_index xs i ≡ slice_index ys i) → number_of order 8 xs ≡ number_of order 8 ys
same_eight order xs ys same = by_order order
  where
    by_order : (order : Order) → number_of order 8 xs ≡ number_of order 8 ys
    by_order Little = let a = same 0 (omega arith) in let b = same 1 (omega arith) in let c = same 2 (omega arith) in let d = same 3 (omega arith) in let e = same 4 (omega arith) in let f = same 5 (omega arith) in let g = same 6 (omega arith) in let h = same 7 (omega arith) in omega arith
    by_order Big = let a = same 0 (omega arith) in let b = same 1 (omega arith) in let c = same 2 (omega arith) in let d = same 3 (omega arith) in let e = same 4 (omega arith) in let f = same 5 (omega arith) in let g = same 6 (omega arith) in let h = same 7 (omega arith) in omega arith

pub stored_once : (order : Order) (x y : ℕ) (cell : ℕ → Option Cell) → IsStored order x cell → IsStored order y cell → x ≡ y
stored_once order x y cell a b = a.3 ∙ same_eight order a.0 b.0 (λ i lt. same_byte (slice_index a.0 i) (slice_index b.0 i) (sym (a.2 i lt) ∙ b.2 i lt)) ∙ sym b.3
