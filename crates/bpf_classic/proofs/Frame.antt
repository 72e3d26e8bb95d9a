-- Cells of the scratch memory in the frame: the cell M[i] is the slot i + 1, the eight bytes from 8 * (63 - i) on.
use Rattle.std.proofs.Common.{◌≡◌, ℕ, suc, ◌+◌, ◌*◌, ◌-◌, ◌/◌, ◌%◌, ◌==◌, ◌<◌, ◌≤◌, ◌^◌, ◌⊎◌, inl, inr, List, [], ◌∷◌, length, take, drop, get_or, Bool, true, false, cond, Option, Some, None, refl, sym, ap, ap₂, ◌∙◌, subst, ⊎_elim, arith}
use Rattle.std.specs.Prelude.{pos, ◌+ℤ◌, slice_index, slice_set, option_map, option_and_then}
use Rattle.std.specs.Option.{option_or}
use Rattle.std.proofs.lemmas.Bool.{le-leb, cases_order, cases_eq}
use Rattle.std.proofs.lemmas.Bool.Decides.{nat_tests}
use Rattle.std.proofs.lemmas.Int.{ints}
use Rattle.std.proofs.lemmas.Option.{none-some}
use Rattle.std.proofs.lemmas.List.{get_or-drop, get_or-set_same, get_or-set_other, length-set}
use Rattle.bpf_insn.specs.Options.{◌>>=◌}
use Rattle.bpf_insn.specs.Order.{number_of, bytes_of}
use Rattle.bpf_insn.specs.Instruction.{Instructions}
use Rattle.bpf_insn.specs.declared.order.Order.{Order}
use Rattle.bpf_insn.specs.declared.instruction.Reg.TheVariants.{R10}
use Rattle.bpf_insn.specs.declared.instruction.Size.TheVariants.{DW}
use Rattle.bpf_insn.specs.declared.instruction.Insn.TheVariants.{Load, Store, StoreImm}
use Rattle.bpf_semantics.specs.State.{State, Cell}
use Rattle.bpf_semantics.specs.State.Cell.{Byte}
use Rattle.bpf_semantics.specs.Memory.{inside, byte_in, bytes_in, pointer_in, is_within, cell_after, without_part, with_bytes, store_number}
use Rattle.bpf_semantics.specs.Memory.Location.{InFrame}
use Rattle.bpf_semantics.specs.Step.{does, load, store}
use Rattle.bpf_semantics.specs.declared.value.Value.TheVariants.{Number}
use Rattle.bpf_semantics.proofs.NumberLemmas.{length-bytes_of}
use Rattle.bpf_semantics.proofs.FlatBytes.{number-bytes}
use Rattle.bpf_semantics.proofs.StateLemmas.{get_each, length-each_cell}
use Rattle.bpf_classic.specs.declared.instruction.Register.{Register}
use Rattle.bpf_classic.specs.declared.instruction.Register.TheVariants.{A, X}
use Rattle.bpf_classic.specs.Template.{reg_of, cell_offset}
use Rattle.bpf_classic.proofs.Steps.{Stands, Moves, far_next, doing}
use Rattle.bpf_classic.proofs.Machine.{Fixed, Now, at, value_of, set_to, with_cells}

abbrev pub Cells : Type 0
Cells = List (Option Cell)

-- where a cell begins
abbrev pub first_of : ℕ → ℕ
first_of i = 8 * (63 - i)

-- the frame holds n in the cell i
abbrev pub HoldsNumber : Order → Cells → ℕ → ℕ → Type 0
HoldsNumber order stack i n = (j : ℕ) → j < 8 → get_or stack (first_of i + j) None ≡ Some (Byte (slice_index (bytes_of order 8 n) j))

-- ---- what is loaded

abbrev more_bytes : Option Cell → Option (List ℕ) → Option (List ℕ)
more_bytes x o = option_and_then (λ b. option_map (λ bs. b ∷ bs) o) (byte_in x)

bytes_take : (xs : Cells) (bytes : List ℕ) → ((j : ℕ) → j < length bytes → get_or xs j None ≡ Some (Byte (slice_index bytes j))) → bytes_in (take (length bytes) xs) ≡ Some bytes
bytes_take xs [] h = refl
bytes_take [] (b ∷ bytes) h = absurd (none-some _ (h 0 (omega arith)))
bytes_take (x ∷ xs) (b ∷ bytes) h =
    let rest : bytes_in (take (length bytes) xs) ≡ Some bytes = bytes_take xs bytes (λ j lt. h (suc j) (omega arith)) in
    ap₂ more_bytes (h 0 (omega arith)) rest

holds_bytes : (order : Order) (xs : Cells) (i n : ℕ) → HoldsNumber order xs i n → bytes_in (take 8 (drop (first_of i) xs)) ≡ Some (bytes_of order 8 n)
holds_bytes order xs i n h =
    let count : length (bytes_of order 8 n) ≡ 8 = length-bytes_of order 8 n in
    subst (λ m. bytes_in (take m (drop (first_of i) xs)) ≡ Some (bytes_of order 8 n)) count
    (bytes_take (drop (first_of i) xs) (bytes_of order 8 n) (λ j lt. get_or-drop (first_of i) xs j None ∙ h j (omega arith)))

aligned : (k : ℕ) → (8 * k) % 8 == 0 ≡ true
aligned k = let e : (8 * k) % 8 ≡ 0 = omega arith in ap (λ n. n == 0) e

cell_place : (i : ℕ) → i < 16 → (pos 0 +ℤ cell_offset i) +ℤ pos 512 ≡ pos (first_of i)
cell_place i lt = omega (arith, ints)

-- the cell lies in the frame
cell_inside : (i : ℕ) → i < 16 → inside 8 512 ((pos 0 +ℤ cell_offset i) +ℤ pos 512) ≡ Some (first_of i)
cell_inside i lt = ap (inside 8 512) (cell_place i lt) ∙ ap (λ b. cond b (Some (first_of i)) None) (le-leb (first_of i + 8) 512 (omega arith))

-- ---- what a store leaves

pub long_after : (bytes : List ℕ) (i : ℕ) (cells : Cells) → length (with_bytes bytes i cells) ≡ length cells
unfolding with_bytes
long_after bytes i cells = length-each_cell (cell_after bytes i) 0 cells

outside : (low high j : ℕ) → (j < low) ⊎ (high ≤ j) → is_within low high j ≡ false
outside low high j h = grind (arith, nat_tests)

within : (low high j : ℕ) → low ≤ j → j < high → is_within low high j ≡ true
within low high j h k = grind (arith, nat_tests)

pub stored : (order : Order) (cells : Cells) (i n : ℕ) → length cells ≡ 512 → i < 16 → HoldsNumber order (with_bytes (bytes_of order 8 n) (first_of i) cells) i n
unfolding with_bytes
stored order cells i n long lt j small =
    let bytes : List ℕ = bytes_of order 8 n in
    let eight : length bytes ≡ 8 = length-bytes_of order 8 n in
    let at : ℕ = first_of i in
    let c = get_or cells (at + j) None in
    let back : at + j - at ≡ j = omega arith in
    get_each (cell_after bytes at) cells (at + j) (omega arith)
    ∙ ap (λ b. cond b (Some (Byte (slice_index bytes (at + j - at)))) (cond (is_within (at / 8) ((at + length bytes + 7) / 8) ((at + j) / 8)) (without_part c) c)) (within at (at + length bytes) (at + j) (omega arith) (omega arith))
    ∙ ap (λ n. Some (Byte (slice_index bytes n))) back

pub kept : (order : Order) (cells : Cells) (i k n m : ℕ) → length cells ≡ 512 → i < 16 → k < 16 → (k ≡ i → ⊥) → HoldsNumber order cells k m → HoldsNumber order (with_bytes (bytes_of order 8 n) (first_of i) cells) k m
unfolding with_bytes
kept order cells i k n m long lt lt' other h j small =
    let bytes : List ℕ = bytes_of order 8 n in
    let eight : length bytes ≡ 8 = length-bytes_of order 8 n in
    let at : ℕ = first_of i in
    let to : ℕ = first_of k + j in
    let c = get_or cells to None in
    let apart : (k < i) ⊎ (i < k) = ⊎_elim (λ e. absurd (other e)) (λ h. h) (cases_order k i) in
    let slots : (to / 8 < at / 8) ⊎ ((at + length bytes + 7) / 8 ≤ to / 8) = elim apart [ inl b ↦ inr (omega arith) | inr b ↦ inl (omega arith) ] in
    let far : (to < at) ⊎ (at + length bytes ≤ to) = elim apart [ inl b ↦ inr (omega arith) | inr b ↦ inl (omega arith) ] in
    get_each (cell_after bytes at) cells to (omega arith)
    ∙ ap (λ b. cond b (Some (Byte (slice_index bytes (to - at)))) (cond (is_within (at / 8) ((at + length bytes + 7) / 8) (to / 8)) (without_part c) c)) (outside at (at + length bytes) to far)
    ∙ ap (λ b. cond b (without_part c) c) (outside (at / 8) ((at + length bytes + 7) / 8) (to / 8) slots)
    ∙ h j small

-- ---- the cells that are wanted hold what the scratch memory does

pub record CellsHold (order : Order) (wanted : ℕ → Bool) (cells : List ℕ) (stack : Cells) : Type 0 where
  pub sixteen : length cells ≡ 16
  pub long : length stack ≡ 512
  pub small : (i : ℕ) → get_or cells i 0 < 2 ^ 32
  pub holds : (i : ℕ) → i < 16 → wanted i ≡ true → HoldsNumber order stack i (get_or cells i 0)

pub cells_after : (order : Order) (wanted : ℕ → Bool) (cells : List ℕ) (stack : Cells) (i n : ℕ) → i < 16 → n < 2 ^ 32 → CellsHold order wanted cells stack → CellsHold order wanted (slice_set cells i n) (with_bytes (bytes_of order 8 n) (first_of i) stack)
cells_after order wanted cells stack i n lt small h =
    record {
      sixteen = length-set cells i n ∙ h.sixteen;
      long = long_after (bytes_of order 8 n) (first_of i) stack ∙ h.long;
      small = λ k. ⊎_elim
          (λ e. subst (λ k. get_or (slice_set cells i n) k 0 < 2 ^ 32) (sym e) (let here = get_or-set_same cells i n 0 (omega (arith, h.sixteen)) in omega (arith, here)))
          (λ ne. let there = get_or-set_other cells i k n 0 ne in let s = h.small k in omega (arith, there))
          (cases_eq k i);
      holds = λ k lt' e. ⊎_elim
          (λ same. subst (λ k. HoldsNumber order (with_bytes (bytes_of order 8 n) (first_of i) stack) k (get_or (slice_set cells i n) k 0)) (sym same)
          (subst (HoldsNumber order (with_bytes (bytes_of order 8 n) (first_of i) stack) i) (sym (get_or-set_same cells i n 0 (omega (arith, h.sixteen)))) (stored order stack i n h.long lt)))
          (λ ne. subst (HoldsNumber order (with_bytes (bytes_of order 8 n) (first_of i) stack) k) (sym (get_or-set_other cells i k n 0 ne)) (kept order stack i k n (get_or cells k 0) h.long lt lt' ne (h.holds k lt' e)))
          (cases_eq k i);
    }

-- ---- the instructions

module _ (p : Instructions) (f : Fixed) (slot : ℕ) (w : Now) where
  cell_value : (i n : ℕ) → n < 2 ^ 32 → HoldsNumber p.order w.stack i n → load p.order (at f slot w) DW (InFrame 0 (first_of i)) ≡ Some (Number n)
  cell_value i n small h =
      let here : get_or w.stack (first_of i) None ≡ Some (Byte (slice_index (bytes_of p.order 8 n) 0)) = (let e : first_of i ≡ first_of i + 0 = omega arith in ap (λ j. get_or w.stack j None) e ∙ h 0 (omega arith)) in
      let number : option_map Number (option_map (number_of p.order 8) (bytes_in (take 8 (drop (first_of i) w.stack)))) ≡ Some (Number n) =
      ap (λ o. option_map Number (option_map (number_of p.order 8) o)) (holds_bytes p.order w.stack i n h) ∙ ap (λ n. Some (Number n)) (number-bytes p.order n (omega arith)) in
      ap₂ (λ b c. option_or (cond b (pointer_in c) None) (option_map Number (option_map (number_of p.order 8) (bytes_in (take 8 (drop (first_of i) w.stack)))))) (aligned (63 - i)) here
      ∙ number

  cell_loaded : (to : Register) (i n : ℕ) → i < 16 → n < 2 ^ 32 → HoldsNumber p.order w.stack i n → does p.order (Load DW (reg_of to) R10 (cell_offset i)) (at f slot w) ≡ Some (at f (slot + 1) (set_to to (Number n) w))
  unfolding does
  cell_loaded A i n lt small h =
      ap (λ o. option_map (InFrame 0) o >>= λ location. load p.order (at f slot w) DW location >>= λ v. Some (at f (slot + 1) (set_to A v w))) (cell_inside i lt)
      ∙ ap (λ o. o >>= λ v. Some (at f (slot + 1) (set_to A v w))) (cell_value i n small h)
  cell_loaded X i n lt small h =
      ap (λ o. option_map (InFrame 0) o >>= λ location. load p.order (at f slot w) DW location >>= λ v. Some (at f (slot + 1) (set_to X v w))) (cell_inside i lt)
      ∙ ap (λ o. o >>= λ v. Some (at f (slot + 1) (set_to X v w))) (cell_value i n small h)

  pub cell_moves : (to : Register) (i n : ℕ) → i < 16 → n < 2 ^ 32 → HoldsNumber p.order w.stack i n → Stands p slot (Load DW (reg_of to) R10 (cell_offset i)) → Moves p (at f slot w) (at f (slot + 1) (set_to to (Number n) w))
  cell_moves to i n lt small h here = doing p (at f slot w) (at f (slot + 1) (set_to to (Number n) w)) (Load DW (reg_of to) R10 (cell_offset i)) here (cell_loaded to i n lt small h) (far_next p slot)

  abbrev stored_at : ℕ → ℕ → State
  stored_at i n = at f (slot + 1) (with_cells (with_bytes (bytes_of p.order 8 n) (first_of i) w.stack) w)

  cell_stored : (from : Register) (i n : ℕ) → i < 16 → value_of from w ≡ Some (Number n) → does p.order (Store DW R10 (cell_offset i) (reg_of from)) (at f slot w) ≡ Some (stored_at i n)
  unfolding does store_number
  cell_stored A i n lt e =
      ap (λ o. o >>= λ v. option_map (InFrame 0) (inside 8 512 ((pos 0 +ℤ cell_offset i) +ℤ pos 512)) >>= λ location. store p.order DW v location (at f (slot + 1) w)) e
      ∙ ap (λ o. option_map (InFrame 0) o >>= λ location. store p.order DW (Number n) location (at f (slot + 1) w)) (cell_inside i lt)
  cell_stored X i n lt e =
      ap (λ o. o >>= λ v. option_map (InFrame 0) (inside 8 512 ((pos 0 +ℤ cell_offset i) +ℤ pos 512)) >>= λ location. store p.order DW v location (at f (slot + 1) w)) e
      ∙ ap (λ o. option_map (InFrame 0) o >>= λ location. store p.order DW (Number n) location (at f (slot + 1) w)) (cell_inside i lt)

  pub store_moves : (from : Register) (i n : ℕ) → i < 16 → value_of from w ≡ Some (Number n) → Stands p slot (Store DW R10 (cell_offset i) (reg_of from)) → Moves p (at f slot w) (stored_at i n)
  store_moves from i n lt e here = doing p (at f slot w) (stored_at i n) (Store DW R10 (cell_offset i) (reg_of from)) here (cell_stored from i n lt e) (far_next p slot)

  cell_zeroed : (i : ℕ) → i < 16 → does p.order (StoreImm DW R10 (cell_offset i) (pos 0)) (at f slot w) ≡ Some (stored_at i 0)
  unfolding does store_number
  cell_zeroed i lt = ap (λ o. option_map (InFrame 0) o >>= λ location. store p.order DW (Number 0) location (at f (slot + 1) w)) (cell_inside i lt)

  pub zero_moves : (i : ℕ) → i < 16 → Stands p slot (StoreImm DW R10 (cell_offset i) (pos 0)) → Moves p (at f slot w) (stored_at i 0)
  zero_moves i lt here = doing p (at f slot w) (stored_at i 0) (StoreImm DW R10 (cell_offset i) (pos 0)) here (cell_zeroed i lt) (far_next p slot)
