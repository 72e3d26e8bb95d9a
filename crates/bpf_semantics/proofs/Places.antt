-- Where accesses lie inside of a block, what is read there and what is written.
use Rattle.std.proofs.Common.{◌≡◌, ℕ, ◌+◌, ◌<◌, ◌≤◌, ◌^◌, ◌%◌, ◌==◌, Bool, true, false, List, Option, Some, None, length, get_or, take, drop, refl, ap, ap₂, ◌∙◌, subst, arith}
use Rattle.std.specs.Prelude.{ℤ, pos, negsuc, ◌+ℤ◌, ◌≤ℤ◌, nat_le, map, option_map, FitsSigned, if◌then◌else◌}
use Rattle.std.specs.Int.{w16, w64}
use Rattle.std.specs.Option.{option_or}
use Rattle.std.proofs.lemmas.Int.{ints}
use Rattle.std.proofs.lemmas.Bool.{le-leb}
use Rattle.std.proofs.lemmas.Option.{none-some}
use Rattle.std.proofs.lemmas.List.{take-map, drop-map}
use Rattle.std.proofs.Math.ListN.{get_or-map}
use Rattle.bpf_insn.specs.Order.{bytes_of, number_of}
use Rattle.bpf_insn.specs.Instruction.{byte_count}
use Rattle.bpf_insn.specs.declared.order.Order.{Order}
use Rattle.bpf_insn.specs.declared.instruction.Size.{Size}
use Rattle.bpf_insn.specs.declared.instruction.Size.TheVariants.{DW}
use Rattle.bpf_semantics.specs.State.{State, depth, frame_bytes}
use Rattle.bpf_semantics.specs.Memory.{Location, inside as span, location_of, bytes_in, stack_of, number_at, pointer_in, pointer_at, with_bytes, with_parts, with_stack, store_number, store_pointer}
use Rattle.bpf_semantics.specs.Memory.Location.{InContext, InFrame}
use Rattle.bpf_semantics.specs.Step.{wrapped, load, store}
use Rattle.bpf_semantics.specs.declared.value.Value.{Value}
use Rattle.bpf_semantics.specs.declared.value.Value.TheVariants.{Number, Pointer}
use Rattle.bpf_semantics.specs.declared.value.Region.{Region}
use Rattle.bpf_semantics.specs.declared.value.Region.TheVariants.{Context, Frame as FrameAt}
use Rattle.bpf_semantics.proofs.FlatArith.{modulo_same, same_refl, same_plus, wrapped-same, same_offsets}
use Rattle.bpf_semantics.proofs.StateLemmas.{option_map_some, inside_is}
use Rattle.bpf_semantics.specs.Blocks.{head_bytes, offset_inside, inside_value, inside}
use Rattle.bpf_semantics.proofs.Values.{head, wrapped_fits}
use Rattle.bpf_semantics.proofs.Cells.{moved_cell, bytes_inside, pointer_inside, with_bytes_inside, with_parts_inside}
use Rattle.bpf_semantics.proofs.States.{moved_value, depth_inside, stack_inside, with_stack_inside}
use Rattle.bpf_semantics.proofs.Head.{Holds}

-- ---- offsets of accesses

fits_near : (z : ℤ) → negsuc (2 ^ 40) ≤ℤ z → z ≤ℤ pos (2 ^ 40) → FitsSigned w64 z
fits_near (pos n) l m = record { sfits = omega (arith, ints) }
fits_near (negsuc n) l m = record { sfits = omega (arith, ints) }

base_near : (at off : ℤ) (i : ℕ) → at +ℤ off ≡ pos i → i < 2 ^ 32 → FitsSigned w16 off → FitsSigned w64 (at +ℤ head)
base_near at (pos n) i e low f = let k = f.sfits in fits_near (at +ℤ head) (omega (arith, ints)) (omega (arith, ints))
base_near at (negsuc n) i e low f = let k = f.sfits in fits_near (at +ℤ head) (omega (arith, ints)) (omega (arith, ints))

wrapped_near : (z : ℤ) → FitsSigned w64 z → wrapped z ≡ z
wrapped_near z f = same_offsets 0 (wrapped z) z (wrapped_fits z) f (modulo_same (same_plus (same_refl (pos 0)) (wrapped-same z)))

-- an access to the context is as far behind the head as it was behind the start
behind_head : (at off : ℤ) (i : ℕ) → at +ℤ off ≡ pos i → i < 2 ^ 32 → FitsSigned w16 off → wrapped (at +ℤ head) +ℤ off ≡ pos (head_bytes + i)
behind_head at off i e low f =
    let there : (at +ℤ head) +ℤ off ≡ pos (head_bytes + i) = omega (arith, ints) in
    ap (λ z. z +ℤ off) (wrapped_near (at +ℤ head) (base_near at off i e low f)) ∙ there

-- ---- locations

abbrev pub inside_location : Location → Location
inside_location (InContext i) = InContext (head_bytes + i)
inside_location (InFrame n i) = InFrame n i

-- the bytes of an access that lies in the context are bytes of it
abbrev pub InBytes : ℕ → ℕ → Location → Type 0
InBytes bytes k (InContext i) = i + k ≤ bytes
InBytes bytes k (InFrame n i) = Unit {0}

module _ (block : List ℕ) where
  pub record Reached (s : State) (k : ℕ) (off : ℤ) (base : Value) (at : Location) : Type 0 where
    pub there : location_of (inside block s) k off (inside_value base) ≡ Some (inside_location at)
    pub bytes : InBytes (length s.context) k at

  pub frame_location : (s : State) (k n : ℕ) (off at : ℤ) → location_of (inside block s) k off (Pointer (FrameAt n) at) ≡ location_of s k off (Pointer (FrameAt n) at)
  frame_location s k n off at = ap (λ d. if nat_le n d then option_map (InFrame n) (span k frame_bytes ((at +ℤ off) +ℤ pos frame_bytes)) else None) (depth_inside block s)

  frame_only : (n : ℕ) (b : Bool) (o : Option ℕ) (at : Location) (P : Location → Type 0) → ((i : ℕ) → P (InFrame n i)) → (if b then option_map (InFrame n) o else None) ≡ Some at → P at
  frame_only n true o at P f e = let m = option_map_some (InFrame n) o at e in subst P m.2 (f m.0)
  frame_only n false o at P f e = absurd (none-some _ e)

  pub reached : (s : State) → Holds s.context block → length s.context < 2 ^ 32 → (k : ℕ) (off : ℤ) (base : Value) (at : Location) → FitsSigned w16 off → location_of s k off base ≡ Some at → Reached s k off base at
  reached s h few k off (Number n) at f e = absurd (none-some _ e)
  reached s h few k off (Pointer Context offset) at f e =
      let m = option_map_some InContext (span k (length s.context) (offset +ℤ off)) at e in
      let i = inside_is k (length s.context) (offset +ℤ off) m.0 m.1 in
      let within = i.1 in
      let long = h.long in
      let fits : (head_bytes + m.0) + k ≤ length block = omega arith in
      subst (Reached s k off (Pointer Context offset)) m.2 (record {
        there =
            ap (λ z. option_map InContext (span k (length block) z)) (behind_head offset off m.0 i.0 (omega arith) f)
            ∙ ap (λ b. option_map InContext (if b then Some (head_bytes + m.0) else None)) (le-leb ((head_bytes + m.0) + k) (length block) fits);
        bytes = within;
      })
  reached s h few k off (Pointer (FrameAt n) offset) at f e =
      frame_only n (nat_le n (depth s)) (span k frame_bytes ((offset +ℤ off) +ℤ pos frame_bytes)) at (λ at. location_of s k off (Pointer (FrameAt n) offset) ≡ Some at → Reached s k off (Pointer (FrameAt n) offset) at)
      (λ i there. record { there = frame_location s k n off offset ∙ there; bytes = tt }) e e

  -- ---- what is read

  pub number_at_inside : (order : Order) (s : State) (k : ℕ) (at : Location) → Holds s.context block → InBytes (length s.context) k at → number_at order (inside block s) k (inside_location at) ≡ number_at order s k at
  number_at_inside order s k (InContext i) h within = ap (λ bs. Some (number_of order k bs)) (h.bytes i k within)
  number_at_inside order s k (InFrame n i) h within =
      ap (λ cells. option_map (number_of order k) (bytes_in (take k (drop i cells)))) (stack_inside block s n)
      ∙ ap (λ cells. option_map (number_of order k) (bytes_in cells)) (ap (take k) (drop-map moved_cell i (stack_of s n)) ∙ take-map moved_cell k (drop i (stack_of s n)))
      ∙ ap (option_map (number_of order k)) (bytes_inside (take k (drop i (stack_of s n))))

  pointer_at_inside : (s : State) (at : Location) → pointer_at (inside block s) (inside_location at) ≡ moved_value (pointer_at s at)
  pointer_at_inside s (InContext i) = refl
  pointer_at_inside s (InFrame n i) = ap (λ cells. if i % 8 == 0 then pointer_in (get_or cells i None) else None) (stack_inside block s n) ∙ by_cases (i % 8 == 0)
    where
      by_cases : (b : Bool) → (if b then pointer_in (get_or (map moved_cell (stack_of s n)) i None) else None) ≡ moved_value (if b then pointer_in (get_or (stack_of s n) i None) else None)
      by_cases true = ap pointer_in (get_or-map moved_cell (stack_of s n) i None) ∙ pointer_inside (get_or (stack_of s n) i None)
      by_cases false = refl

  number_or_pointer : (p : Option Value) (n : Option ℕ) → option_or (moved_value p) (option_map Number n) ≡ moved_value (option_or p (option_map Number n))
  number_or_pointer None None = refl
  number_or_pointer None (Some n) = refl
  number_or_pointer (Some v) n = refl

  pub load_inside : (order : Order) (s : State) (size : Size) (at : Location) → Holds s.context block → InBytes (length s.context) (byte_count size) at → load order (inside block s) size (inside_location at) ≡ moved_value (load order s size at)
  load_inside order s DW at h within = ap₂ (λ p n. option_or p (option_map Number n)) (pointer_at_inside s at) (number_at_inside order s 8 at h within) ∙ number_or_pointer (pointer_at s at) (number_at order s 8 at)
  load_inside order s size at h within = ap (option_map Number) (number_at_inside order s (byte_count size) at h within) ∙ number_or_pointer None (number_at order s (byte_count size) at)

  -- ---- what is written

  pub store_number_inside : (order : Order) (k x : ℕ) (at : Location) (s : State) → store_number order k x (inside_location at) (inside block s) ≡ option_map (inside block) (store_number order k x at s)
  unfolding store_number
  store_number_inside order k x (InContext i) s = refl
  store_number_inside order k x (InFrame n i) s =
      let bytes : List ℕ = bytes_of order k x in
      ap Some (ap (λ cells. with_stack (inside block s) n (with_bytes bytes i cells)) (stack_inside block s n)
      ∙ ap (with_stack (inside block s) n) (with_bytes_inside bytes i (stack_of s n))
      ∙ with_stack_inside block s n (with_bytes bytes i (stack_of s n)))

  store_pointer_inside : (region : Region) (off : ℤ) (at : Location) (s : State) → store_pointer region (offset_inside region off) (inside_location at) (inside block s) ≡ option_map (inside block) (store_pointer region off at s)
  unfolding store_pointer
  store_pointer_inside region off (InContext i) s = refl
  store_pointer_inside region off (InFrame n i) s = by_cases (i % 8 == 0)
    where
      stored : with_stack (inside block s) n (with_parts region (offset_inside region off) i (stack_of (inside block s) n)) ≡ inside block (with_stack s n (with_parts region off i (stack_of s n)))
      stored =
          ap (λ cells. with_stack (inside block s) n (with_parts region (offset_inside region off) i cells)) (stack_inside block s n)
          ∙ ap (with_stack (inside block s) n) (with_parts_inside region off i (stack_of s n))
          ∙ with_stack_inside block s n (with_parts region off i (stack_of s n))

      by_cases : (b : Bool) → (if b then Some (with_stack (inside block s) n (with_parts region (offset_inside region off) i (stack_of (inside block s) n))) else None)
          ≡ option_map (inside block) (if b then Some (with_stack s n (with_parts region off i (stack_of s n))) else None)
      by_cases true = ap Some stored
      by_cases false = refl

  pub store_inside : (order : Order) (size : Size) (v : Value) (at : Location) (s : State) → store order size (inside_value v) (inside_location at) (inside block s) ≡ option_map (inside block) (store order size v at s)
  store_inside order size (Number x) at s = store_number_inside order (byte_count size) x at s
  store_inside order DW (Pointer region off) at s = store_pointer_inside region off at s
  store_inside order size (Pointer region off) at s = refl
