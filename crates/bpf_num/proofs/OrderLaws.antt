-- A join has the members of both sets; a set has the members of each one that entails it.
use Rattle.std.proofs.Common.{◌≡◌, ℕ, ◌-◌, ◌<◌, min, max, sym, ◌∙◌, arith, true}
use Rattle.std.specs.Prelude.{nat_eq, nat_le, int_le, ◌&&◌, bit_and, bit_or, bit_xor}
use Rattle.std.specs.Int.{bit_at}
use Rattle.std.proofs.lemmas.Bool.{and_parts, eqb-true, leb-true}
use Rattle.std.proofs.lemmas.Int.{ints, clamps}
use Rattle.std.proofs.lemmas.Nat.{or_lt, xor_lt}
use Rattle.std.proofs.lemmas.Nat.Bits.{bit_at_or}
use Rattle.bpf_num.specs.Word.{complement}
use Rattle.bpf_num.specs.Laws.WordLaws.{bit_at_and_not, no_bit, same_bits}
use Rattle.bpf_num.specs.Tristate.{Tristate, IsTristate, HasBits, bits_join, bits_entail}
use Rattle.bpf_num.specs.Laws.TristateLaws.{bit_at_forget}
use Rattle.bpf_num.specs.Interval.{unsigned_entail}
use Rattle.bpf_num.specs.SignedInterval.{signed_entail}
use Rattle.bpf_num.specs.Number.{Number, IsNumber, Has, join, entails}
use Rattle.bpf_num.proofs.Parts.{le_from_test}

-- ---- joins

-- where a join knows a bit, both sets do, with the same value
joined_bit : (a b : Tristate) (i : ℕ) → bit_at (bits_join a b).mask i ≡ 0 → (bit_at a.mask i ≡ 0) × (bit_at b.mask i ≡ 0) × (bit_at a.value i ≡ bit_at b.value i)
joined_bit a b i known =
    let outer : max (bit_at (bit_or a.mask b.mask) i) (bit_at (bit_xor a.value b.value) i) ≡ 0 = sym (bit_at_or (bit_or a.mask b.mask) (bit_xor a.value b.value) i) ∙ known in
    let inner : max (bit_at a.mask i) (bit_at b.mask i) ≡ bit_at (bit_or a.mask b.mask) i = sym (bit_at_or a.mask b.mask i) in
    (omega arith, omega arith, same_bits a.value b.value i (omega arith))

joined_value : (a b : Tristate) (i : ℕ) → IsTristate a → IsTristate b → i < 64 → bit_at (bits_join a b).mask i ≡ 0 → bit_at (bits_join a b).value i ≡ bit_at a.value i
joined_value a b i ok ok' lt known =
    bit_at_forget a.value _ i (or_lt 64 _ _ (or_lt 64 a.mask b.mask ok.mask_fits ok'.mask_fits) (xor_lt 64 a.value b.value ok.value_fits ok'.value_fits)) lt known

bits_join_left : (a b : Tristate) (x : ℕ) → IsTristate a → IsTristate b → HasBits a x → HasBits (bits_join a b) x
bits_join_left a b x ok ok' has =
    record {
      fits = has.fits;
      agrees = λ i lt known. has.agrees i lt (joined_bit a b i known).0 ∙ sym (joined_value a b i ok ok' lt known);
    }

bits_join_right : (a b : Tristate) (x : ℕ) → IsTristate a → IsTristate b → HasBits b x → HasBits (bits_join a b) x
bits_join_right a b x ok ok' has =
    record {
      fits = has.fits;
      agrees = λ i lt known. let e = joined_bit a b i known in has.agrees i lt e.1 ∙ sym e.2 ∙ sym (joined_value a b i ok ok' lt known);
    }

pub join_left : (a b : Number) (x : ℕ) → IsNumber a → IsNumber b → Has a x → Has (join a b) x
join_left a b x ok ok' has =
    let u = has.unsigned in
    let s = has.signed in
    record {
      bits = bits_join_left a.bits b.bits x ok.bits ok'.bits has.bits;
      unsigned = record { above = omega arith; below = omega arith };
      signed = record { fits = s.fits; above = omega (arith, ints, clamps); below = omega (arith, ints, clamps) };
    }

pub join_right : (a b : Number) (x : ℕ) → IsNumber a → IsNumber b → Has b x → Has (join a b) x
join_right a b x ok ok' has =
    let u = has.unsigned in
    let s = has.signed in
    record {
      bits = bits_join_right a.bits b.bits x ok.bits ok'.bits has.bits;
      unsigned = record { above = omega arith; below = omega arith };
      signed = record { fits = s.fits; above = omega (arith, ints, clamps); below = omega (arith, ints, clamps) };
    }

-- ---- entailment

bits_entailed : (a b : Tristate) (x : ℕ) → IsTristate b → bits_entail a b ≡ true → HasBits a x → HasBits b x
bits_entailed a b x ok test has =
    let both = and_parts (nat_eq (bit_and a.mask (complement b.mask)) 0) (nat_eq (bit_and (bit_xor a.value b.value) (complement b.mask)) 0) test in
    let masks = eqb-true (bit_and a.mask (complement b.mask)) 0 both.0 in
    let values = eqb-true (bit_and (bit_xor a.value b.value) (complement b.mask)) 0 both.1 in
    record {
      fits = has.fits;
      agrees = λ i lt known.
          let m : min (bit_at a.mask i) (1 - bit_at b.mask i) ≡ 0 = sym (bit_at_and_not a.mask b.mask i ok.mask_fits lt) ∙ no_bit _ i masks in
          let v : min (bit_at (bit_xor a.value b.value) i) (1 - bit_at b.mask i) ≡ 0 = sym (bit_at_and_not (bit_xor a.value b.value) b.mask i ok.mask_fits lt) ∙ no_bit _ i values in
          has.agrees i lt (omega arith) ∙ same_bits a.value b.value i (omega arith);
    }

pub entails_includes : (a b : Number) (x : ℕ) → IsNumber b → entails a b ≡ true → Has a x → Has b x
entails_includes a b x ok test has =
    let outer = and_parts (bits_entail a.bits b.bits && unsigned_entail a.unsigned b.unsigned) (signed_entail a.signed b.signed) test in
    let inner = and_parts (bits_entail a.bits b.bits) (unsigned_entail a.unsigned b.unsigned) outer.0 in
    let u = and_parts (nat_le b.unsigned.lo a.unsigned.lo) (nat_le a.unsigned.hi b.unsigned.hi) inner.1 in
    let s = and_parts (int_le b.signed.lo a.signed.lo) (int_le a.signed.hi b.signed.hi) outer.1 in
    let u_lo = leb-true b.unsigned.lo a.unsigned.lo u.0 in
    let u_hi = leb-true a.unsigned.hi b.unsigned.hi u.1 in
    let s_lo = le_from_test b.signed.lo a.signed.lo s.0 in
    let s_hi = le_from_test a.signed.hi b.signed.hi s.1 in
    let low = has.signed.above in
    let high = has.signed.below in
    record {
      bits = bits_entailed a.bits b.bits x ok.bits inner.0 has.bits;
      unsigned = record { above = omega arith; below = omega arith };
      signed = record { fits = has.bits.fits; above = omega (arith, ints); below = omega (arith, ints) };
    }
