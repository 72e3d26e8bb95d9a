-- Numbers of the rules, as the code has them.
use Rattle.std.proofs.Common.{◌≡◌, ℕ, ◌<◌, ◌^◌, Option, Some, None, sym, arith}
use Rattle.std.specs.Prelude.{ℤ, pos, negsuc, ◌+ℤ◌, ◌-ℤ◌, ◌≤ℤ◌, FitsSigned, IfSome}
use Rattle.std.specs.Int.{w16, w64, w128}
use Rattle.std.proofs.lemmas.Int.{ints}
use Rattle.std.proofs.lemmas.Option.{none-some, same_Some}
use Rattle.bpf_insn.specs.Instruction.{not_negative}

-- ---- numbers of 16, 32 and 64 bits, in 128

near_16 : (z : ℤ) → FitsSigned w16 z → (negsuc (2 ^ 15) ≤ℤ z) × (z ≤ℤ pos (2 ^ 15))
near_16 (pos n) f = let k = f.sfits in (omega (arith, ints), omega (arith, ints))
near_16 (negsuc n) f = let k = f.sfits in (omega (arith, ints), omega (arith, ints))

near_64 : (z : ℤ) → FitsSigned w64 z → (negsuc (2 ^ 63) ≤ℤ z) × (z ≤ℤ pos (2 ^ 63))
near_64 (pos n) f = let k = f.sfits in (omega (arith, ints), omega (arith, ints))
near_64 (negsuc n) f = let k = f.sfits in (omega (arith, ints), omega (arith, ints))

fits_128 : (z : ℤ) → negsuc (2 ^ 100) ≤ℤ z → z ≤ℤ pos (2 ^ 100) → FitsSigned w128 z
fits_128 (pos n) l m = record { sfits = omega (arith, ints) }
fits_128 (negsuc n) l m = record { sfits = omega (arith, ints) }

pub end_fits : (off : ℤ) (n : ℕ) → FitsSigned w16 off → n < 2 ^ 8 → FitsSigned w128 (off +ℤ pos n)
end_fits off n fits small =
    let h = near_16 off fits in
    let low = h.0 in
    let high = h.1 in
    fits_128 (off +ℤ pos n) (omega (arith, ints)) (omega (arith, ints))

pub moved_fits : (size : ℕ) (z : ℤ) → size < 2 ^ 64 → FitsSigned w64 z → FitsSigned w128 (pos size +ℤ z)
moved_fits size z small fits =
    let h = near_64 z fits in
    let low = h.0 in
    let high = h.1 in
    fits_128 (pos size +ℤ z) (omega (arith, ints)) (omega (arith, ints))

pub needed_fits : (size limit : ℕ) (z : ℤ) → size < 2 ^ 64 → limit < 2 ^ 64 → FitsSigned w64 z → FitsSigned w128 ((pos size +ℤ z) -ℤ pos limit)
needed_fits size limit z small most fits =
    let h = near_64 z fits in
    let low = h.0 in
    let high = h.1 in
    fits_128 ((pos size +ℤ z) -ℤ pos limit) (omega (arith, ints)) (omega (arith, ints))

-- ---- bytes of the frame

few_bytes : (y : ℤ) (b : ℕ) → y ≤ℤ pos (2 ^ 16) → not_negative y ≡ Some b → b < 2 ^ 17
few_bytes (pos n) b high e = let same : n ≡ b = same_Some n b e in omega (arith, ints)
few_bytes (negsuc n) b high e = absurd (none-some b e)

pub first_is_low : (z : ℤ) (b : ℕ) → FitsSigned w16 z → not_negative (z +ℤ pos 512) ≡ Some b → b < 2 ^ 17
first_is_low z b fits e =
    let h = near_16 z fits in
    let high = h.1 in
    few_bytes (z +ℤ pos 512) b (omega (arith, ints)) e

pub is_low_if : (z : ℤ) (o : Option ℕ) → FitsSigned w16 z → o ≡ not_negative (z +ℤ pos 512) → IfSome o (λ b. b < 2 ^ 17)
is_low_if z None fits e = tt
is_low_if z (Some b) fits e = first_is_low z b fits (sym e)
