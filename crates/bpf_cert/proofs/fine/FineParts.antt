-- What a line says by itself: canonical and within its limits, where the values that it spells are.
use Rattle.std.proofs.Common.{◌≡◌, ℕ, suc, ◌-◌, ◌^◌, ◌<◌, ◌≤◌, Bool, true, false, cond, eqb, leb, ltb, List, [], ◌∷◌, ◌++◌, refl, ap, arith, ℤ, pos, negsuc, neg_ℤ, ◌≤ℤ◌}
use Rattle.std.specs.Prelude.{◌&&◌, decimal, bit_and}
use Rattle.std.proofs.lemmas.Bool.{leb-true, ltb-true, ne_eqb}
use Rattle.std.proofs.lemmas.Int.{ints}
use Rattle.bpf_cert.specs.Numeral.{SignedDigits, is_plain, number, signed_number, is_plain_signed, digits_of_int, int_eq}
use Rattle.bpf_cert.specs.Line.{Part}
use Rattle.bpf_cert.specs.Faults.{is_plain_part, is_top, is_limited_part, is_canonical_number, is_limited_number}
use Rattle.bpf_cert.specs.Limits.{is_range, is_bits, is_int_range, is_limited_num}
use Rattle.bpf_cert.specs.Spelling.{of_parts, number_of}
use Rattle.bpf_cert.proofs.Bools.{both_true}
use Rattle.bpf_cert.proofs.NumLemmas.{in_range}
use Rattle.bpf_cert.proofs.NumeralLaws.{numeral-decimal, is_plain-decimal}
use Rattle.bpf_num.specs.Number.{Number as AbstractNumber}

-- digits that plainly write the number
pub record Writes (ds : List ℕ) (n : ℕ) : Type 0 where
  pub plain : is_plain ds ≡ true
  pub same : number ds ≡ n

pub decimal_writes : (n : ℕ) → n < 2 ^ 64 → Writes (decimal n) n
decimal_writes n small = record { plain = is_plain-decimal n small; same = (numeral-decimal n small).1 }

pub record WritesInt (s : SignedDigits) (z : ℤ) : Type 0 where
  pub plain : is_plain_signed s ≡ true
  pub same : signed_number s ≡ z

pub digits_write : (z : ℤ) → neg_ℤ (pos (2 ^ 63)) ≤ℤ z → z ≤ℤ pos (2 ^ 63) → WritesInt (digits_of_int z) z
digits_write (pos n) low high = let d = decimal_writes n (omega (arith, ints)) in record { plain = rw d.plain refl; same = ap pos d.same }
digits_write (negsuc n) low high =
    let d = decimal_writes (suc n) (omega (arith, ints)) in
    let some : eqb (suc n) 0 ≡ false = ne_eqb (suc n) 0 (λ e. omega arith) in
    record { plain = rw (d.plain, d.same, some) refl; same = ap (λ k. neg_ℤ (pos k)) d.same }

-- a part that is refused for nothing by itself
record IsGood (p : Part) : Type 0 where
  plain : is_plain_part p ≡ true
  some : is_top p ≡ false
  limited : is_limited_part p ≡ true

unsigned_good : (lo hi : ℕ) → is_range lo hi ≡ true → (eqb lo 0 && eqb hi (2 ^ 64 - 1)) ≡ false → IsGood (Part.unsigned (decimal lo) (decimal hi))
unsigned_good lo hi e some =
    let ends = both_true (leb hi (2 ^ 64 - 1)) (leb lo hi) e in
    let top : hi ≤ 2 ^ 64 - 1 = leb-true hi (2 ^ 64 - 1) ends.0 in
    let order : lo ≤ hi = leb-true lo hi ends.1 in
    let a = decimal_writes lo (omega arith) in
    let b = decimal_writes hi (omega arith) in
    record { plain = rw (a.plain, b.plain) refl; some = rw (a.same, b.same) some; limited = rw (a.same, b.same) e }

bits_good : (v m : ℕ) → is_bits v m ≡ true → (eqb v 0 && eqb m (2 ^ 64 - 1)) ≡ false → IsGood (Part.bits (decimal v) (decimal m))
bits_good v m e some =
    let outer = both_true (ltb v (2 ^ 64) && ltb m (2 ^ 64)) (eqb (bit_and v m) 0) e in
    let inner = both_true (ltb v (2 ^ 64)) (ltb m (2 ^ 64)) outer.0 in
    let a = decimal_writes v (ltb-true v (2 ^ 64) inner.0) in
    let b = decimal_writes m (ltb-true m (2 ^ 64) inner.1) in
    record { plain = rw (a.plain, b.plain) refl; some = rw (a.same, b.same) some; limited = rw (a.same, b.same) e }

signed_good : (lo hi : ℤ) → is_int_range (neg_ℤ (pos (2 ^ 63))) (pos (2 ^ 63 - 1)) lo hi ≡ true → (int_eq lo (neg_ℤ (pos (2 ^ 63))) && int_eq hi (pos (2 ^ 63 - 1))) ≡ false
    → IsGood (Part.signed (digits_of_int lo) (digits_of_int hi))
signed_good lo hi e some =
    let r = in_range (neg_ℤ (pos (2 ^ 63))) (pos (2 ^ 63 - 1)) lo hi e in
    let low = r.low in let high = r.high in let low_high = r.low_high in let high_low = r.high_low in
    let a = digits_write lo low (omega (arith, ints)) in
    let b = digits_write hi high_low (omega (arith, ints)) in
    record { plain = rw (a.plain, b.plain) refl; some = rw (a.same, b.same) some; limited = rw (a.same, b.same) e }

abbrev AreGood : List Part → Type 0
AreGood ps = (is_canonical_number (of_parts ps) ≡ true) × (is_limited_number (of_parts ps) ≡ true)

-- a number's parts are in their order, whichever of them are there
pub number_good : (n : AbstractNumber) → is_limited_num n ≡ true → (is_canonical_number (number_of n) ≡ true) × (is_limited_number (number_of n) ≡ true)
number_good n e =
    let outer = both_true (is_range n.unsigned.lo n.unsigned.hi && is_int_range (neg_ℤ (pos (2 ^ 63))) (pos (2 ^ 63 - 1)) n.signed.lo n.signed.hi) (is_bits n.bits.value n.bits.mask) e in
    let inner = both_true (is_range n.unsigned.lo n.unsigned.hi) (is_int_range (neg_ℤ (pos (2 ^ 63))) (pos (2 ^ 63 - 1)) n.signed.lo n.signed.hi) outer.0 in
    by_tests (eqb n.unsigned.lo 0 && eqb n.unsigned.hi (2 ^ 64 - 1)) (int_eq n.signed.lo (neg_ℤ (pos (2 ^ 63))) && int_eq n.signed.hi (pos (2 ^ 63 - 1))) (eqb n.bits.value 0 && eqb n.bits.mask (2 ^ 64 - 1))
    (decimal n.unsigned.lo) (decimal n.unsigned.hi) (digits_of_int n.signed.lo) (digits_of_int n.signed.hi) (decimal n.bits.value) (decimal n.bits.mask)
    (unsigned_good n.unsigned.lo n.unsigned.hi inner.0) (signed_good n.signed.lo n.signed.hi inner.1) (bits_good n.bits.value n.bits.mask outer.1)
  where
    by_tests : (a b c : Bool) (ul uh : List ℕ) (sl sh : SignedDigits) (v m : List ℕ) → (a ≡ false → IsGood (Part.unsigned ul uh)) → (b ≡ false → IsGood (Part.signed sl sh)) → (c ≡ false → IsGood (Part.bits v m))
        → AreGood (cond a [] (Part.unsigned ul uh ∷ []) ++ cond b [] (Part.signed sl sh ∷ []) ++ cond c [] (Part.bits v m ∷ []))
    by_tests true true true ul uh sl sh v m f g h = (refl, refl)
    by_tests true true false ul uh sl sh v m f g h = let r = h refl in (rw (r.plain, r.some) refl, rw r.limited refl)
    by_tests true false true ul uh sl sh v m f g h = let q = g refl in (rw (q.plain, q.some) refl, rw q.limited refl)
    by_tests true false false ul uh sl sh v m f g h = let q = g refl in let r = h refl in (rw (q.plain, q.some, r.plain, r.some) refl, rw (q.limited, r.limited) refl)
    by_tests false true true ul uh sl sh v m f g h = let p = f refl in (rw (p.plain, p.some) refl, rw p.limited refl)
    by_tests false true false ul uh sl sh v m f g h = let p = f refl in let r = h refl in (rw (p.plain, p.some, r.plain, r.some) refl, rw (p.limited, r.limited) refl)
    by_tests false false true ul uh sl sh v m f g h = let p = f refl in let q = g refl in (rw (p.plain, p.some, q.plain, q.some) refl, rw (p.limited, q.limited) refl)
    by_tests false false false ul uh sl sh v m f g h = let p = f refl in let q = g refl in let r = h refl in (rw (p.plain, p.some, q.plain, q.some, r.plain, r.some) refl, rw (p.limited, q.limited, r.limited) refl)
