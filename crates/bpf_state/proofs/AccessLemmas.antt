-- Which slots an access may touch, and which of their bytes.
use Rattle.std.proofs.Common.{◌≡◌, ℕ, zero, suc, ℤ, pos, negsuc, ◌+ℤ◌, ◌-ℤ◌, ◌≤ℤ◌, ◌<ℤ◌, neg_ℤ, ◌+◌, ◌-◌, ◌*◌, ◌/◌, ◌%◌, ◌^◌, ◌<◌, ◌≤◌, refl, sym, ◌∙◌, ap, ap₂, subst, arith, true, false, Bool, inl, inr}
use Rattle.std.specs.Prelude.{nat_lt, nat_le, int_le, int_lt, unsigned_abs, ◌&&◌}
use Rattle.std.specs.Int.{int_min, int_max, w128, cast_signed, cast_unsigned}
use Rattle.std.proofs.lemmas.Bool.{leb-true, ltb-true, lt-ltb, le-leb, cases_lt, false≢true}
use Rattle.std.proofs.lemmas.Bool.Decides.{nat_tests}
use Rattle.std.proofs.lemmas.Int.{ints, clamps}
use Rattle.std.proofs.lemmas.Nat.{one_shl}
use Rattle.std.proofs.Math.Pow.{pow_mono}
use Rattle.bpf_insn.specs.Instruction.{byte_count}
use Rattle.bpf_insn.specs.declared.instruction.Size.{Size}
use Rattle.bpf_insn.specs.declared.instruction.Size.TheVariants.{B, H, W, DW}
use Rattle.bpf_state.specs.Access.{Span, IsOutside, LiesOutside, is_inside, first_byte, span_end, offset_in_slot}
use Rattle.bpf_state.specs.code.Parts.{IsSpan, AreTouched, begins_outside, depth_of}

same_tests : (a b : Bool) → (a ≡ true → b ≡ true) → (b ≡ true → a ≡ true) → a ≡ b
same_tests true b f g = sym (f refl)
same_tests false true f g = g refl
same_tests false false f g = refl

lt_from_test : (a b : ℤ) → int_lt a b ≡ true → a <ℤ b
lt_from_test a b test = grind (arith, ints)

test_from_lt : (a b : ℤ) → a <ℤ b → int_lt a b ≡ true
test_from_lt a b lt = grind (arith, ints)

-- ---- an offset outside

le_from_test : (a b : ℤ) → int_le a b ≡ false → b <ℤ a
le_from_test a b test = grind (arith, ints)

test_from_le : (a b : ℤ) → a ≤ℤ b → int_le a b ≡ true
test_from_le a b le = grind (arith, ints)

ge_from_test : (a b : ℤ) → int_lt a b ≡ false → b ≤ℤ a
ge_from_test a b test = grind (arith, ints)

and_false : (a b : Bool) → (a && b) ≡ false → a ≡ true → b ≡ false
and_false true b e f = e
and_false false b e f = absurd (false≢true f)

first_of : (len : ℕ) (p : Span) (b : Bool) → is_inside len (record p { in_frame = b }) ≡ false → begins_outside len (record p { in_frame = b }) ≡ true → LiesOutside len b p.lowest
first_of len p true e f = inl (lt_from_test _ _ f)
first_of len p false e f = inl (low (int_le (pos 0) p.lowest) refl)
  where
    low : (b : Bool) → int_le (pos 0) p.lowest ≡ b → p.lowest <ℤ pos 0
    low false h = le_from_test _ _ h
    low true h =
        let end : pos len <ℤ span_end p = le_from_test _ _ (and_false _ _ e h) in
        let last : (span_end p -ℤ pos 1) <ℤ pos len = lt_from_test _ _ f in
        absurd (omega (arith, ints))

last_of : (len : ℕ) (p : Span) (b : Bool) → is_inside len (record p { in_frame = b }) ≡ false → begins_outside len (record p { in_frame = b }) ≡ false → LiesOutside len b (span_end p -ℤ pos 1)
last_of len p true e f =
    let low : neg_ℤ (pos 512) ≤ℤ p.lowest = ge_from_test _ _ f in
    let end : pos 0 <ℤ span_end p = le_from_test _ _ (and_false _ _ e (test_from_le _ _ low)) in
    inr (omega (arith, ints))
last_of len p false e f = inr (ge_from_test _ _ f)

pub first_outside : (len : ℕ) (p : Span) (z : ℤ) → IsSpan p → is_inside len p ≡ false → begins_outside len p ≡ true → z ≡ p.lowest → IsOutside len p z
first_outside len p z is e f g =
    let some = is.some in let ordered = is.ordered in
    subst (IsOutside len p) (sym g) (record { from = omega (arith, ints); below = omega (arith, ints); outside = first_of len p p.in_frame e f })

pub last_outside : (len : ℕ) (p : Span) (z : ℤ) → IsSpan p → is_inside len p ≡ false → begins_outside len p ≡ false → z ≡ span_end p -ℤ pos 1 → IsOutside len p z
last_outside len p z is e f g =
    let some = is.some in let ordered = is.ordered in
    subst (IsOutside len p) (sym g) (record { from = omega (arith, ints); below = omega (arith, ints); outside = last_of len p p.in_frame e f })

-- ---- the depth of an offset

depth_pos : (n : ℕ) → depth_of (pos n) ≡ 0
depth_pos zero = refl
depth_pos (suc n) = refl

deep : (n : ℕ) → 511 ≤ n → depth_of (negsuc n) ≡ 512
deep n h = grind (arith, nat_tests)

shallow : (n : ℕ) → n < 511 → depth_of (negsuc n) ≡ suc n
shallow n h = grind (arith, nat_tests)

-- what is below an end of slots, as numbers
low_at : (l : ℤ) (i d : ℕ) → depth_of l ≡ d → (l <ℤ (first_byte (suc i) +ℤ pos 8) → i < (d + 7) / 8) → (i < (d + 7) / 8 → l <ℤ (first_byte (suc i) +ℤ pos 8)) → int_lt l (first_byte (suc i) +ℤ pos 8) ≡ nat_lt i ((depth_of l + 7) / 8)
low_at l i d e f g = rw e (same_tests _ _ (λ t. lt-ltb i ((d + 7) / 8) (f (lt_from_test _ _ t))) (λ t. test_from_lt _ _ (g (ltb-true i ((d + 7) / 8) t))))

low_test : (l : ℤ) (i : ℕ) → i < 64 → int_lt l (first_byte (suc i) +ℤ pos 8) ≡ nat_lt i ((depth_of l + 7) / 8)
low_test (pos n) i h = low_at (pos n) i 0 (depth_pos n) (λ t. omega (arith, ints)) (λ t. omega (arith, ints))
low_test (negsuc n) i h = elim (cases_lt n 511) [
  | inl few ↦ low_at (negsuc n) i (suc n) (shallow n few) (λ t. omega (arith, ints)) (λ t. omega (arith, ints))
  | inr many ↦ low_at (negsuc n) i 512 (deep n many) (λ t. omega (arith, ints)) (λ t. omega (arith, ints))
]

high_at : (e : ℤ) (i d : ℕ) → depth_of e ≡ d → (first_byte (suc i) <ℤ e → d / 8 ≤ i) → (d / 8 ≤ i → first_byte (suc i) <ℤ e) → int_lt (first_byte (suc i)) e ≡ nat_le (depth_of e / 8) i
high_at e i d q f g = rw q (same_tests _ _ (λ t. le-leb (d / 8) i (f (lt_from_test _ _ t))) (λ t. test_from_lt _ _ (g (leb-true (d / 8) i t))))

high_test : (e : ℤ) (i : ℕ) → i < 64 → int_lt (first_byte (suc i)) e ≡ nat_le (depth_of e / 8) i
high_test (pos n) i h = high_at (pos n) i 0 (depth_pos n) (λ t. omega (arith, ints)) (λ t. omega (arith, ints))
high_test (negsuc n) i h = elim (cases_lt n 511) [
  | inl few ↦ high_at (negsuc n) i (suc n) (shallow n few) (λ t. omega (arith, ints)) (λ t. omega (arith, ints))
  | inr many ↦ high_at (negsuc n) i 512 (deep n many) (λ t. omega (arith, ints)) (λ t. omega (arith, ints))
]

abs_mono : (a b : ℤ) → pos 0 ≤ℤ a → a ≤ℤ b → unsigned_abs a ≤ unsigned_abs b
abs_mono (pos m) (pos n) h k = omega (arith, ints)
abs_mono (pos m) (negsuc n) h k = absurd (omega (arith, ints))
abs_mono (negsuc m) b h k = absurd (omega (arith, ints))

depth_small : (z : ℤ) → depth_of z ≤ 512
depth_small (pos n) = let e = depth_pos n in omega arith
depth_small (negsuc n) = elim (cases_lt n 511) [
  | inl few ↦ (let e = shallow n few in omega arith)
  | inr many ↦ (let e = deep n many in omega arith)
]

depth_mono : (y z : ℤ) → y ≤ℤ z → depth_of z ≤ depth_of y
depth_mono y z h =
    abs_mono (int_max (pos 0) (int_min (neg_ℤ z) (pos 512))) (int_max (pos 0) (int_min (neg_ℤ y) (pos 512))) (omega (arith, ints, clamps)) (omega (arith, ints, clamps))

pub touched_are : (p : Span) (first end : ℕ) → IsSpan p → p.in_frame ≡ true → first ≡ depth_of (span_end p) / 8 → end ≡ (depth_of p.lowest + 7) / 8 → AreTouched p first end
touched_are p first end ok framed e f =
    let small = depth_small p.lowest in
    let low = ok.ordered in
    let mono = depth_mono p.lowest (span_end p) (omega (arith, ints)) in
    record {
      ordered = omega arith;
      within = omega arith;
      exact = λ i h. rw (e, f, framed) (ap₂ (λ a b. a && b) (low_test p.lowest i h) (high_test (span_end p) i h));
    }

-- the code holds the ends as signed numbers of 128 bits
abbrev pub held : ℤ → ℤ
held z = cast_signed w128 (cast_unsigned w128 z)

pub held_is : (z : ℤ) → neg_ℤ (pos (2 ^ 65)) ≤ℤ z → z ≤ℤ pos (2 ^ 65) → held z ≡ z
held_is z low high = omega (arith, ints)

min_comm : (a b : ℤ) → int_min a b ≡ int_min b a
min_comm a b = omega (arith, ints, clamps)

pub place_is : (i : ℕ) (z t r : ℤ) → pos 0 ≤ℤ r → r ≤ℤ pos 8 → r ≡ int_max (pos 0) (int_min t (pos 8)) → t ≡ z -ℤ first_byte (suc i) → unsigned_abs (held r) ≡ offset_in_slot (suc i) z
place_is i z t r above below e f =
    ap unsigned_abs (held_is r (omega (arith, ints)) (omega (arith, ints)) ∙ e ∙ ap (int_max (pos 0)) (min_comm t (pos 8) ∙ ap (int_min (pos 8)) f))

place_mono : (k : ℕ) (y z : ℤ) → y ≤ℤ z → offset_in_slot k y ≤ offset_in_slot k z
place_mono k y z h =
    abs_mono (int_max (pos 0) (int_min (pos 8) (y -ℤ first_byte k))) (int_max (pos 0) (int_min (pos 8) (z -ℤ first_byte k))) (omega (arith, ints, clamps)) (omega (arith, ints, clamps))

pub place_small : (k : ℕ) (z : ℤ) → offset_in_slot k z ≤ 8
place_small k z = abs_mono (int_max (pos 0) (int_min (pos 8) (z -ℤ first_byte k))) (pos 8) (omega (arith, ints, clamps)) (omega (arith, ints, clamps))

shifted : (n : ℕ) → n ≤ 8 → 1 * 2 ^ n % 65536 ≡ 2 ^ n
shifted n h = one_shl n 16 (omega arith)

pub mask_fits : (k m n : ℕ) (y z : ℤ) → m ≡ offset_in_slot k y → n ≡ offset_in_slot k z → y ≤ℤ z → 1 * 2 ^ m % 65536 ≤ 1 * 2 ^ n % 65536
mask_fits k m n y z e f h =
    let a = place_small k y in
    let b = place_small k z in
    let c = place_mono k y z h in
    rw (shifted m (omega arith), shifted n (omega arith)) (pow_mono {i = m} {j = n} (omega arith))

pub mask_is : (k m n : ℕ) (y z : ℤ) → m ≡ offset_in_slot k y → n ≡ offset_in_slot k z → 1 * 2 ^ n % 65536 - 1 * 2 ^ m % 65536 ≡ 2 ^ offset_in_slot k z - 2 ^ offset_in_slot k y
mask_is k m n y z e f =
    let a = place_small k y in
    let b = place_small k z in
    ap₂ (λ x w. x - w) (shifted n (omega arith) ∙ ap (λ x. 2 ^ x) f) (shifted m (omega arith) ∙ ap (λ x. 2 ^ x) e)

pub count_some : (size : Size) → 1 ≤ byte_count size
count_some B = omega arith
count_some H = omega arith
count_some W = omega arith
count_some DW = omega arith

pub count_few : (size : Size) → byte_count size ≤ 8
count_few B = omega arith
count_few H = omega arith
count_few W = omega arith
count_few DW = omega arith

pub span_same : (f : Bool) (l l' h h' : ℤ) (n n' : ℕ) → l ≡ l' → h ≡ h' → n ≡ n' → ◌≡◌ {A = Span} (record { in_frame = f; lowest = l; highest = h; count = n }) (record { in_frame = f; lowest = l'; highest = h'; count = n' })
span_same f l l' h h' n n' a b c = rw (a, b, c) refl
