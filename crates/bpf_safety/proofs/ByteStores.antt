-- What a store of a number's bytes does to a state and to its description.
use Rattle.std.proofs.Common.{◌≡◌, ℕ, zero, suc, ◌+◌, ◌-◌, ◌*◌, ◌/◌, ◌%◌, ◌<◌, ◌≤◌, refl, sym, ◌∙◌, ap, subst, arith, List, [], ◌∷◌, length, get_or, set, inl, inr, Option, Some, None, Bool, true, false, cond}
use Rattle.std.specs.Prelude.{slice_index, ◌⊎◌, ⊤}
use Rattle.std.specs.Int.{bit_at}
use Rattle.std.proofs.lemmas.Bool.{cases_lt}
use Rattle.bpf_insn.specs.declared.order.Order.{Order}
use Rattle.bpf_semantics.specs.State.{Cell, StackFrame, IsFrame, IsNumberCell, cell}
use Rattle.bpf_semantics.specs.State.Cell.{Byte, Part}
use Rattle.bpf_semantics.specs.Memory.{with_bytes}
use Rattle.bpf_state.specs.declared.known.SlotState.{SlotState}
use Rattle.bpf_state.specs.declared.known.SlotState.TheVariants.{Bytes, Word, Spilled}
use Rattle.bpf_state.specs.declared.known.Tag.{Tag}
use Rattle.bpf_state.specs.Access.{Span, touches, touched_bytes}
use Rattle.bpf_state.specs.Transfer.{slot_written, slot_maybe_written, each_slot, each_slot_tag}
use Rattle.bpf_safety.specs.Describes.{DescribesSlot, TaggedSlot}
use Rattle.bpf_safety.proofs.StoredCells.{written_cell, kept_cell, left_cell}
use Rattle.bpf_safety.proofs.TouchedCells.{LiesAt, not_touched, apart, touched_bit}
use Rattle.bpf_safety.proofs.WrittenSlots.{IsByte, written_slot, maybe_written_slot}

-- ---- cells

abbrev pub IsPartCell : Option Cell → Type 0
IsPartCell (Some (Part i region off)) = ⊤
IsPartCell c = ⊥

-- the bytes in a frame's cells are bytes
pub byte_fits : (f : StackFrame) → IsFrame f → (j b : ℕ) → j < 512 → get_or f.stack j None ≡ Some (Byte b) → b < 256
byte_fits f ok j b lt is =
    let e : 8 * (j / 8) + j % 8 ≡ j = omega arith in
    elim (ok.whole (j / 8) (omega arith)) [
      | inl h ↦ subst IsNumberCell (ap (cell f.stack) e ∙ is) (h (j % 8) (omega arith))
      | inr h ↦ absurd (subst (λ c. IsPartCell c) (sym (h.parts (j % 8) (omega arith)) ∙ ap (cell f.stack) e ∙ is) tt)
    ]

-- a byte stays a byte under a write of bytes
stays_byte : (bytes : List ℕ) (c j : ℕ) (cells : List (Option Cell)) → ((i : ℕ) → slice_index bytes i < 256) → j < length cells → (b : ℕ) → b < 256 → get_or cells j None ≡ Some (Byte b) → IsByte (get_or (with_bytes bytes c cells) j None)
stays_byte bytes c j cells fit lt b small is =
    elim (cases_lt j c) [
      | inl below ↦ record { byte = b; is = left_cell bytes c j cells (inl below) lt b is; fits = small }
      | inr above ↦ elim (cases_lt j (c + length bytes)) [
        | inl inside ↦ record { byte = slice_index bytes (j - c); is = written_cell bytes c j cells above inside lt; fits = fit (j - c) }
        | inr past ↦ record { byte = b; is = left_cell bytes c j cells (inr past) lt b is; fits = small }
      ]
    ]

-- the cells of slot k
abbrev pub cells_of : List (Option Cell) → ℕ → ℕ → Option Cell
cells_of cells k i = get_or cells (512 - 8 * k + i) None

-- the same cells hold the same
pub same_slot : (order : Order) (depth : ℕ) (held : SlotState) (cell cell' : ℕ → Option Cell) → ((i : ℕ) → i < 8 → cell' i ≡ cell i) → DescribesSlot order depth held cell → DescribesSlot order depth held cell'
same_slot order depth (Bytes m) cell cell' same d = λ i lt set. let b = d i lt set in (b.0, same i lt ∙ b.1)
same_slot order depth (Word n) cell cell' same d = (d.0, (d.1.0, d.1.1, λ i lt. same i lt ∙ d.1.2 i lt, d.1.3), d.2)
same_slot order depth (Spilled p) cell cell' same d = (d.0, λ i lt. same i lt ∙ d.1 i lt, d.2, d.3)

pub same_slot_tag : (order : Order) (x : List ℕ) (tag : Option Tag) (cell cell' : ℕ → Option Cell) → ((i : ℕ) → i < 8 → cell' i ≡ cell i) → TaggedSlot order x tag cell → TaggedSlot order x tag cell'
same_slot_tag order x None cell cell' same d = tt
same_slot_tag order x (Some t) cell cell' same d = (d.0, (d.1.0, d.1.1, λ i lt. same i lt ∙ d.1.2 i lt, d.1.3), d.2)

-- bytes written from cell c on, by a span
pub record Write (f : StackFrame) (p : Span) (c : ℕ) (bytes : List ℕ) : Type 0 where
  pub frame : IsFrame f
  pub lies : LiesAt p c
  pub count : length bytes ≡ p.count
  pub fit : (i : ℕ) → slice_index bytes i < 256

module _ (f : StackFrame) (p : Span) (c : ℕ) (bytes : List ℕ) (w : Write f p c bytes) (k : ℕ) (low : 1 ≤ k) (high : k ≤ 64) where
  -- an untouched slot
  untouched : touches p k ≡ false → (i : ℕ) → i < 8 → cells_of (with_bytes bytes c f.stack) k i ≡ cells_of f.stack k i
  untouched not i lt =
      let all = w.frame.cells in
      let n = w.count in
      kept_cell bytes c (512 - 8 * k + i) f.stack
      (subst (λ n. ((512 - 8 * k + i) / 8 < c / 8) ⊎ ((c + n + 7) / 8 ≤ (512 - 8 * k + i) / 8)) (sym w.count) (apart c p.count k i low high lt (not_touched p c k w.lies not)))
      (omega arith)

  stays : (i : ℕ) → i < 8 → (b : ℕ) → cells_of f.stack k i ≡ Some (Byte b) → IsByte (cells_of (with_bytes bytes c f.stack) k i)
  stays i lt b is =
      let all = w.frame.cells in
      stays_byte bytes c (512 - 8 * k + i) f.stack w.fit (omega arith) b (byte_fits f w.frame (512 - 8 * k + i) b (omega arith) is) is

  news : p.lowest ≡ p.highest → (i : ℕ) → i < 8 → bit_at (touched_bytes p k) i ≡ 1 → IsByte (cells_of (with_bytes bytes c f.stack) k i)
  news known i lt set =
      let all = w.frame.cells in
      let n = w.count in
      let t = touched_bit p c k i w.lies known low high lt set in
      record { byte = slice_index bytes (512 - 8 * k + i - c); is = written_cell bytes c (512 - 8 * k + i) f.stack t.0 (omega arith) (omega arith); fits = w.fit (512 - 8 * k + i - c) }

  pub known_slot : (order : Order) (depth : ℕ) (held : SlotState) → p.lowest ≡ p.highest → DescribesSlot order depth held (cells_of f.stack k) → DescribesSlot order depth (cond (touches p k) (slot_written (touched_bytes p k) held) held) (cells_of (with_bytes bytes c f.stack) k)
  known_slot order depth held known d = by_test (touches p k) refl
    where
      by_test : (t : Bool) → touches p k ≡ t → DescribesSlot order depth (cond t (slot_written (touched_bytes p k) held) held) (cells_of (with_bytes bytes c f.stack) k)
      by_test true e = written_slot order depth (touched_bytes p k) held (cells_of f.stack k) (cells_of (with_bytes bytes c f.stack) k) stays (news known) d
      by_test false e = same_slot order depth held (cells_of f.stack k) (cells_of (with_bytes bytes c f.stack) k) (untouched e) d

  pub unknown_slot : (order : Order) (depth : ℕ) (held : SlotState) → DescribesSlot order depth held (cells_of f.stack k) → DescribesSlot order depth (cond (touches p k) (slot_maybe_written held) held) (cells_of (with_bytes bytes c f.stack) k)
  unknown_slot order depth held d = by_test (touches p k) refl
    where
      by_test : (t : Bool) → touches p k ≡ t → DescribesSlot order depth (cond t (slot_maybe_written held) held) (cells_of (with_bytes bytes c f.stack) k)
      by_test true e = maybe_written_slot order depth held (cells_of f.stack k) (cells_of (with_bytes bytes c f.stack) k) stays d
      by_test false e = same_slot order depth held (cells_of f.stack k) (cells_of (with_bytes bytes c f.stack) k) (untouched e) d

  pub touched_tag : (order : Order) (x : List ℕ) (tag : Option Tag) → TaggedSlot order x tag (cells_of f.stack k) → TaggedSlot order x (cond (touches p k) None tag) (cells_of (with_bytes bytes c f.stack) k)
  touched_tag order x tag d = by_test (touches p k) refl
    where
      by_test : (t : Bool) → touches p k ≡ t → TaggedSlot order x (cond t None tag) (cells_of (with_bytes bytes c f.stack) k)
      by_test true e = tt
      by_test false e = same_slot_tag order x tag (cells_of f.stack k) (cells_of (with_bytes bytes c f.stack) k) (untouched e) d

-- ---- the slots of an abstract state

each_slot_at : (f : ℕ → SlotState → SlotState) (k j : ℕ) (ss : List SlotState) → j < length ss → get_or (each_slot f k ss) j (Bytes 0) ≡ f (k + j) (get_or ss j (Bytes 0))
each_slot_at f k j [] lt = absurd (omega arith)
each_slot_at f k zero (s ∷ ss) lt = ap (λ n. f n s) (omega arith)
each_slot_at f k (suc j) (s ∷ ss) lt = each_slot_at f (suc k) j ss (omega arith) ∙ ap (λ n. f n (get_or ss j (Bytes 0))) (omega arith)

each_slot_tag_at : (f : ℕ → Option Tag → Option Tag) (k j : ℕ) (ts : List (Option Tag)) → j < length ts → get_or (each_slot_tag f k ts) j None ≡ f (k + j) (get_or ts j None)
each_slot_tag_at f k j [] lt = absurd (omega arith)
each_slot_tag_at f k zero (s ∷ ss) lt = ap (λ n. f n s) (omega arith)
each_slot_tag_at f k (suc j) (s ∷ ss) lt = each_slot_tag_at f (suc k) j ss (omega arith) ∙ ap (λ n. f n (get_or ss j None)) (omega arith)

pub length-each_slot : (f : ℕ → SlotState → SlotState) (k : ℕ) (ss : List SlotState) → length (each_slot f k ss) ≡ length ss
length-each_slot f k [] = refl
length-each_slot f k (s ∷ ss) = ap suc (length-each_slot f (suc k) ss)

pub length-each_slot_tag : (f : ℕ → Option Tag → Option Tag) (k : ℕ) (ts : List (Option Tag)) → length (each_slot_tag f k ts) ≡ length ts
length-each_slot_tag f k [] = refl
length-each_slot_tag f k (s ∷ ss) = ap suc (length-each_slot_tag f (suc k) ss)

pub slot_of_each : (f : ℕ → SlotState → SlotState) (k : ℕ) (ss : List SlotState) → length ss ≡ 64 → 1 ≤ k → k ≤ 64 → get_or (each_slot f 1 ss) (k - 1) (Bytes 0) ≡ f k (get_or ss (k - 1) (Bytes 0))
slot_of_each f k ss all low high = each_slot_at f 1 (k - 1) ss (omega arith) ∙ ap (λ n. f n (get_or ss (k - 1) (Bytes 0))) (omega arith)

pub tag_of_each : (f : ℕ → Option Tag → Option Tag) (k : ℕ) (ss : List (Option Tag)) → length ss ≡ 64 → 1 ≤ k → k ≤ 64 → get_or (each_slot_tag f 1 ss) (k - 1) None ≡ f k (get_or ss (k - 1) None)
tag_of_each f k ss all low high = each_slot_tag_at f 1 (k - 1) ss (omega arith) ∙ ap (λ n. f n (get_or ss (k - 1) None)) (omega arith)
