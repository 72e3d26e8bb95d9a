-- Which cells of a slot an access touches: the tests on a span, against places in the stack.
use Rattle.std.proofs.Common.{◌≡◌, ℕ, ℤ, pos, ◌+ℤ◌, ◌-ℤ◌, ◌≤ℤ◌, ◌+◌, ◌-◌, ◌*◌, ◌/◌, ◌<◌, ◌≤◌, sym, ◌∙◌, arith, inl, inr, true, false, min}
use Rattle.std.proofs.lemmas.Bool.{cases_lt}
use Rattle.std.specs.Prelude.{◌⊎◌, int_lt}
use Rattle.std.specs.Int.{bit_at}
use Rattle.std.proofs.lemmas.Int.{ints, clamps}
use Rattle.std.proofs.lemmas.Nat.Bits.{bit_at_mask_below, bit_at_mask_above}
use Rattle.bpf_state.specs.Access.{Span, span_end, touches, first_byte, offset_in_slot, touched_bytes}
use Rattle.bpf_safety.proofs.Tests.{and3_false}

-- the first byte of an access by a span lies in cell c of the frame's 512
pub record LiesAt (p : Span) (c : ℕ) : Type 0 where
  pub in_frame : p.in_frame ≡ true
  pub lowest : p.lowest ≤ℤ (pos c -ℤ pos 512)
  pub highest : (pos c -ℤ pos 512) ≤ℤ p.highest
  pub fits : c + p.count ≤ 512

-- the place of a cell in a slot
pub place_is : (k c : ℕ) (z : ℤ) → z ≡ pos c -ℤ pos 512 → offset_in_slot k z ≡ min 8 (c + 8 * k - 512)
place_is k c z e = omega (arith, ints, clamps)

pub int_lt_true : (a b : ℤ) → int_lt a b ≡ true → (a +ℤ pos 1) ≤ℤ b
int_lt_true a b h = omega (arith, ints)

int_lt_false : (a b : ℤ) → int_lt a b ≡ false → b ≤ℤ a
int_lt_false a b h = omega (arith, ints)

-- ---- touched or not

pub zero_or_one : {A : Type 0} → ◌≡◌ {A = ℕ} 0 1 → A
zero_or_one e = absurd (omega (arith, e))

-- an untouched slot's cells lie apart
pub not_touched : (p : Span) (c k : ℕ) → LiesAt p c → touches p k ≡ false → (512 ≤ c + 8 * k - 8) ⊎ (c + p.count + 8 * k ≤ 512)
not_touched p c k at h =
    elim (and3_false p.in_frame (int_lt p.lowest (first_byte k +ℤ pos 8)) (int_lt (first_byte k) (span_end p)) h at.in_frame) [
      | inl e ↦ inl (let f = int_lt_false p.lowest (first_byte k +ℤ pos 8) e in let g = at.highest in let l = at.lowest in omega (arith, ints))
      | inr e ↦ inr (let f = int_lt_false (first_byte k) (span_end p) e in let g = at.highest in let l = at.lowest in omega (arith, ints))
    ]

-- the same, as places among the slots of the stack
pub apart : (c n k i : ℕ) → 1 ≤ k → k ≤ 64 → i < 8 → (512 ≤ c + 8 * k - 8) ⊎ (c + n + 8 * k ≤ 512) → ((512 - 8 * k + i) / 8 < c / 8) ⊎ ((c + n + 7) / 8 ≤ (512 - 8 * k + i) / 8)
apart c n k i low high lt (inl h) = inl (omega arith)
apart c n k i low high lt (inr h) = inr (omega arith)

-- a bit of the mask of a known access stands for a cell that it touches
pub touched_bit : (p : Span) (c k i : ℕ) → LiesAt p c → p.lowest ≡ p.highest → 1 ≤ k → k ≤ 64 → i < 8 → bit_at (touched_bytes p k) i ≡ 1 → (c ≤ 512 - 8 * k + i) × (512 - 8 * k + i < c + p.count)
touched_bit p c k i at known low high lt set =
    let l = at.lowest in
    let h = at.highest in
    let e : p.lowest ≡ pos c -ℤ pos 512 = omega (arith, ints) in
    let f : span_end p ≡ pos (c + p.count) -ℤ pos 512 = omega (arith, ints) in
    let a = place_is k c p.lowest e in
    let b = place_is k (c + p.count) (span_end p) f in
    (from_below a, from_above b)
  where
    from_below : offset_in_slot k p.lowest ≡ min 8 (c + 8 * k - 512) → c ≤ 512 - 8 * k + i
    from_below a =
        elim (cases_lt i (offset_in_slot k p.lowest)) [
          | inl less ↦ zero_or_one (sym (bit_at_mask_below (offset_in_slot k p.lowest) (offset_in_slot k (span_end p)) i less) ∙ set)
          | inr more ↦ omega arith
        ]

    from_above : offset_in_slot k (span_end p) ≡ min 8 (c + p.count + 8 * k - 512) → 512 - 8 * k + i < c + p.count
    from_above b =
        elim (cases_lt i (offset_in_slot k (span_end p))) [
          | inl less ↦ omega arith
          | inr more ↦ zero_or_one (sym (bit_at_mask_above (offset_in_slot k p.lowest) (offset_in_slot k (span_end p)) i more) ∙ set)
        ]
