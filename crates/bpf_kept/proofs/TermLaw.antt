-- Arithmetic on terms: what the new program computes where each of its operands differs from the old program's by a term.
use Rattle.std.proofs.Common.{◌≡◌, ℕ, zero, suc, ◌+◌, ◌*◌, ◌/◌, ◌%◌, ◌^◌, ◌<◌, refl, sym, ap, ap₂, ◌∙◌, subst, arith}
use Rattle.std.specs.Prelude.{ℤ, pos, ◌+ℤ◌, ◌-ℤ◌, ◌*ℤ◌, neg_ℤ, ◌-◌}
use Rattle.std.proofs.lemmas.Int.{ints}
use Rattle.std.proofs.Math.IntN.{*ℤ-zero, *ℤ_comm, suc_ℤ-*ℤ, pos-*ℤ-pos}
use Rattle.bpf_insn.specs.Arithmetic.{modulo}
use Rattle.bpf_semantics.specs.Flat.{addresses}
use Rattle.bpf_semantics.proofs.FlatArith.{Same, modulo_same, same_refl, same_sym, same_trans, same_plus, same_minus, same_equal, modulo-same, modulo_of_small}
use Rattle.bpf_semantics.proofs.NumberLemmas.{modulo_below}
use Rattle.bpf_kept.specs.declared.notes.Term.{Term}
use Rattle.bpf_kept.specs.Terms.{Differs, shift, constant, plus, minus, opposite, negated, times}

-- ---- numbers modulo 2 ^ 64

number_same : (n : ℕ) → Same (pos (n % addresses)) (pos n)
number_same n = record { p = n / addresses; q = 0; same = omega (arith, ints) }

product_split : (n own : ℕ) → n * own ≡ ((n / addresses) * own) * addresses + (n % addresses) * own
product_split n own =
    let e : n ≡ addresses * (n / addresses) + n % addresses = omega arith in
    ap (λ m. m * own) e ∙ spread (n / addresses) (n % addresses) own
  where
    spread : (q r own : ℕ) → (addresses * q + r) * own ≡ (q * own) * addresses + r * own
    spread q r own = omega arith

product_same : (n own : ℕ) → Same (pos ((n % addresses) * own)) (pos (n * own))
product_same n own = let e = product_split n own in record { p = (n / addresses) * own; q = 0; same = omega (arith, ints) }

opposite_same : (n : ℕ) → Same (pos (opposite n)) (pos 0 -ℤ pos n)
opposite_same n =
    let small : n % addresses < addresses = omega arith in
    let first : Same (pos (opposite n)) (pos (addresses - n % addresses)) = number_same (addresses - n % addresses) in
    let second : Same (pos (addresses - n % addresses)) (pos 0 -ℤ pos (n % addresses)) = record { p = 0; q = 1; same = omega (arith, ints) } in
    same_trans first (same_trans second (same_minus (same_refl (pos 0)) (number_same n)))

-- the opposite, so often
opposite_product : (n own : ℕ) → Same (pos (opposite n * own)) (pos 0 -ℤ pos (n * own))
opposite_product n own =
    let m : ℕ = n % addresses in
    let small : m < addresses = omega arith in
    let first : Same (pos (opposite n * own)) (pos ((addresses - m) * own)) = product_same (addresses - m) own in
    let whole : (addresses - m) * own + m * own ≡ own * addresses = together (addresses - m) m own (omega arith) in
    let second : Same (pos ((addresses - m) * own)) (pos 0 -ℤ pos (m * own)) = record { p = 0; q = own; same = omega (arith, ints) } in
    same_trans first (same_trans second (same_minus (same_refl (pos 0)) (product_same n own)))
  where
    together : (a b own : ℕ) → a + b ≡ addresses → a * own + b * own ≡ own * addresses
    together a b own e = let spread : (a + b) * own ≡ a * own + b * own = omega arith in sym spread ∙ ap (λ n. n * own) e ∙ (omega arith)

-- ---- shifts

shift_of : (own : ℕ) (t : Term) (moved frames : ℤ) → Same (pos t.moved) moved → Same (pos (t.frames * own)) frames → Same (shift own t) (moved -ℤ frames)
shift_of own t moved frames m f = same_minus m f

pub shift_plus : (own : ℕ) (a b : Term) → Same (shift own (plus a b)) (shift own a +ℤ shift own b)
shift_plus own a b =
    let moved : Same (pos ((a.moved + b.moved) % addresses)) (pos a.moved +ℤ pos b.moved) = number_same (a.moved + b.moved) in
    let spread : (a.frames + b.frames) * own ≡ a.frames * own + b.frames * own = omega arith in
    let frames : Same (pos (((a.frames + b.frames) % addresses) * own)) (pos (a.frames * own) +ℤ pos (b.frames * own)) = same_trans (product_same (a.frames + b.frames) own) (same_equal (ap pos spread)) in
    same_trans (same_minus moved frames) (same_equal (regroup (pos a.moved) (pos b.moved) (pos (a.frames * own)) (pos (b.frames * own))))
  where
    regroup : (k l p q : ℤ) → (k +ℤ l) -ℤ (p +ℤ q) ≡ (k -ℤ p) +ℤ (l -ℤ q)
    regroup k l p q = omega (arith, ints)

pub shift_neg : (own : ℕ) (a : Term) → Same (shift own (negated a)) (neg_ℤ (shift own a))
shift_neg own a = same_trans (same_minus (opposite_same a.moved) (opposite_product a.frames own)) (same_equal (regroup (pos a.moved) (pos (a.frames * own))))
  where
    regroup : (k p : ℤ) → (pos 0 -ℤ k) -ℤ (pos 0 -ℤ p) ≡ neg_ℤ (k -ℤ p)
    regroup k p = omega (arith, ints)

pub shift_minus : (own : ℕ) (a b : Term) → Same (shift own (minus a b)) (shift own a -ℤ shift own b)
shift_minus own a b = same_trans (shift_plus own a (negated b)) (same_trans (same_plus (same_refl (shift own a)) (shift_neg own b)) (same_equal (again (shift own a) (shift own b))))
  where
    again : (z w : ℤ) → z +ℤ neg_ℤ w ≡ z -ℤ w
    again z w = omega (arith, ints)

pub shift_constant : (own n : ℕ) → shift own (constant n) ≡ pos n
shift_constant own n = let e : 0 * own ≡ 0 = omega arith in omega (arith, ints)

-- ---- numbers that differ

pub differs_same : (own : ℕ) (t : Term) (x y : ℕ) → Differs own t x y → Same (pos y) (pos x +ℤ shift own t)
differs_same own t x y e = subst (λ z. Same (pos z) (pos x +ℤ shift own t)) (sym e) (modulo-same (pos x +ℤ shift own t))

pub same_differs : (own : ℕ) (t : Term) (x y : ℕ) → y < addresses → Same (pos y) (pos x +ℤ shift own t) → Differs own t x y
same_differs own t x y small s = sym (modulo_of_small y small) ∙ modulo_same s

pub zero_differs : (own x y : ℕ) (t : Term) → x < addresses → shift own t ≡ pos 0 → Differs own t x y → y ≡ x
zero_differs own x y t small e d =
    let h : pos x +ℤ shift own t ≡ pos x = rw e (omega (arith, ints)) in
    d ∙ ap (λ z. modulo z addresses) h ∙ modulo_of_small x small

pub same_number : (own x : ℕ) → x < addresses → Differs own (constant 0) x x
same_number own x small =
    let h : pos x +ℤ shift own (constant 0) ≡ pos x = rw (shift_constant own 0) (omega (arith, ints)) in
    sym (ap (λ z. modulo z addresses) h ∙ modulo_of_small x small)

-- the sum, the difference and the negation of numbers that differ by terms differ by the sum, the difference and the negation of these
pub sum_differs : (own : ℕ) (s t : Term) (a b x y : ℕ) → Differs own s a x → Differs own t b y → Differs own (plus s t) ((a + b) % addresses) ((x + y) % addresses)
sum_differs own s t a b x y d e =
    let p = differs_same own s a x d in
    let q = differs_same own t b y e in
    let both = same_plus p q in
    let again : (pos a +ℤ shift own s) +ℤ (pos b +ℤ shift own t) ≡ (pos a +ℤ pos b) +ℤ (shift own s +ℤ shift own t) = omega (arith, ints) in
    let left : Same (pos ((x + y) % addresses)) (pos x +ℤ pos y) = modulo-same (pos (x + y)) in
    let right : Same (pos ((a + b) % addresses)) (pos a +ℤ pos b) = modulo-same (pos (a + b)) in
    same_differs own (plus s t) ((a + b) % addresses) ((x + y) % addresses) (omega arith)
    (same_trans left (same_trans both (same_trans (same_equal again) (same_plus (same_sym right) (same_sym (shift_plus own s t))))))

pub difference_differs : (own : ℕ) (s t : Term) (a b x y : ℕ) → Differs own s a x → Differs own t b y → Differs own (minus s t) (modulo (pos a -ℤ pos b) addresses) (modulo (pos x -ℤ pos y) addresses)
difference_differs own s t a b x y d e =
    let p = differs_same own s a x d in
    let q = differs_same own t b y e in
    let both = same_minus p q in
    let again : (pos a +ℤ shift own s) -ℤ (pos b +ℤ shift own t) ≡ (pos a -ℤ pos b) +ℤ (shift own s -ℤ shift own t) = omega (arith, ints) in
    same_differs own (minus s t) (modulo (pos a -ℤ pos b) addresses) (modulo (pos x -ℤ pos y) addresses) (modulo_below (pos x -ℤ pos y))
    (same_trans (modulo-same (pos x -ℤ pos y)) (same_trans both (same_trans (same_equal again) (same_plus (same_sym (modulo-same (pos a -ℤ pos b))) (same_sym (shift_minus own s t))))))

pub negation_differs : (own : ℕ) (s : Term) (a x : ℕ) → Differs own s a x → Differs own (negated s) (modulo (pos 0 -ℤ pos a) addresses) (modulo (pos 0 -ℤ pos x) addresses)
negation_differs own s a x d =
    let p = differs_same own s a x d in
    let both = same_minus (same_refl (pos 0)) p in
    let again : pos 0 -ℤ (pos a +ℤ shift own s) ≡ (pos 0 -ℤ pos a) +ℤ neg_ℤ (shift own s) = omega (arith, ints) in
    same_differs own (negated s) (modulo (pos 0 -ℤ pos a) addresses) (modulo (pos 0 -ℤ pos x) addresses) (modulo_below (pos 0 -ℤ pos x))
    (same_trans (modulo-same (pos 0 -ℤ pos x)) (same_trans both (same_trans (same_equal again) (same_plus (same_sym (modulo-same (pos 0 -ℤ pos a))) (same_sym (shift_neg own s))))))

-- what is known of a number by 0 is known of 0 by the number
pub opposite_differs : (own : ℕ) (t : Term) (x : ℕ) → Differs own t 0 x → Differs own (negated t) x 0
opposite_differs own t x d =
    let both : Same (pos x +ℤ shift own (negated t)) ((pos 0 +ℤ shift own t) +ℤ neg_ℤ (shift own t)) = same_plus (differs_same own t 0 x d) (shift_neg own t) in
    same_differs own (negated t) x 0 (omega arith) (same_sym (same_trans both (same_equal (none_left (shift own t)))))
  where
    none_left : (z : ℤ) → (pos 0 +ℤ z) +ℤ neg_ℤ z ≡ pos 0
    none_left z = omega (arith, ints)

-- ---- products by constants

times_more : (a : ℤ) (n : ℕ) → a *ℤ pos (suc n) ≡ a *ℤ pos n +ℤ a
times_more a n = *ℤ_comm a (pos (suc n)) ∙ suc_ℤ-*ℤ (pos n) a ∙ ap (λ z. z +ℤ a) (*ℤ_comm (pos n) a)

plus_more : (x p q a b : ℤ) → x ≡ p +ℤ q → x +ℤ (a +ℤ b) ≡ (p +ℤ a) +ℤ (q +ℤ b)
plus_more x p q a b e = omega (arith, ints)

minus_more : (x p q a b : ℤ) → x ≡ p -ℤ q → x +ℤ (a -ℤ b) ≡ (p +ℤ a) -ℤ (q +ℤ b)
minus_more x p q a b e = omega (arith, ints)

times_plus : (a b : ℤ) (n : ℕ) → (a +ℤ b) *ℤ pos n ≡ a *ℤ pos n +ℤ b *ℤ pos n
times_plus a b zero = rw (*ℤ-zero (a +ℤ b), *ℤ-zero a, *ℤ-zero b) refl
times_plus a b (suc n) = rw (times_more (a +ℤ b) n, times_more a n, times_more b n) (plus_more ((a +ℤ b) *ℤ pos n) (a *ℤ pos n) (b *ℤ pos n) a b (times_plus a b n))

times_minus : (a b : ℤ) (n : ℕ) → (a -ℤ b) *ℤ pos n ≡ a *ℤ pos n -ℤ b *ℤ pos n
times_minus a b zero = rw (*ℤ-zero (a -ℤ b), *ℤ-zero a, *ℤ-zero b) refl
times_minus a b (suc n) = rw (times_more (a -ℤ b) n, times_more a n, times_more b n) (minus_more ((a -ℤ b) *ℤ pos n) (a *ℤ pos n) (b *ℤ pos n) a b (times_minus a b n))

shift_times : (own : ℕ) (t : Term) (n : ℕ) → Same (shift own (times n t)) (shift own t *ℤ pos n)
shift_times own t n =
    let moved : Same (pos ((t.moved * n) % addresses)) (pos (t.moved * n)) = number_same (t.moved * n) in
    let order : (t.frames * n) * own ≡ (t.frames * own) * n = omega arith in
    let frames : Same (pos (((t.frames * n) % addresses) * own)) (pos ((t.frames * own) * n)) = same_trans (product_same (t.frames * n) own) (same_equal (ap pos order)) in
    let split : shift own t *ℤ pos n ≡ pos (t.moved * n) -ℤ pos ((t.frames * own) * n) = times_minus (pos t.moved) (pos (t.frames * own)) n ∙ ap₂ (λ z w. z -ℤ w) (pos-*ℤ-pos t.moved n) (pos-*ℤ-pos (t.frames * own) n) in
    same_trans (same_minus moved frames) (same_equal (sym split))

same_times : (z w : ℤ) (n : ℕ) → Same z w → Same (z *ℤ pos n) (w *ℤ pos n)
same_times z w zero s = same_equal (*ℤ-zero z ∙ sym (*ℤ-zero w))
same_times z w (suc n) s = same_trans (same_equal (times_more z n)) (same_trans (same_plus (same_times z w n s) s) (same_equal (sym (times_more w n))))

pub product_differs : (own : ℕ) (s : Term) (a x n : ℕ) → Differs own s a x → Differs own (times n s) ((a * n) % addresses) ((x * n) % addresses)
product_differs own s a x n d =
    let p = same_times (pos x) (pos a +ℤ shift own s) n (differs_same own s a x d) in
    let split : (pos a +ℤ shift own s) *ℤ pos n ≡ pos a *ℤ pos n +ℤ shift own s *ℤ pos n = times_plus (pos a) (shift own s) n in
    let left : Same (pos ((x * n) % addresses)) (pos x *ℤ pos n) = same_trans (modulo-same (pos (x * n))) (same_equal (sym (pos-*ℤ-pos x n))) in
    let right : Same (pos ((a * n) % addresses)) (pos a *ℤ pos n) = same_trans (modulo-same (pos (a * n))) (same_equal (sym (pos-*ℤ-pos a n))) in
    same_differs own (times n s) ((a * n) % addresses) ((x * n) % addresses) (omega arith)
    (same_trans left (same_trans p (same_trans (same_equal split) (same_plus (same_sym right) (same_sym (shift_times own s n))))))

-- ---- all bits turned

complement_same : (x : ℕ) → x < addresses → Same (pos (2 ^ 64 - 1 - x)) ((pos 0 -ℤ pos x) -ℤ pos 1)
complement_same x small = record { p = 0; q = 1; same = omega (arith, ints) }

pub complement_differs : (own : ℕ) (s : Term) (a x : ℕ) → a < addresses → x < addresses → Differs own s a x → Differs own (negated s) (2 ^ 64 - 1 - a) (2 ^ 64 - 1 - x)
complement_differs own s a x ha hx d =
    let p = differs_same own s a x d in
    let both = same_minus (same_minus (same_refl (pos 0)) p) (same_refl (pos 1)) in
    let again : (pos 0 -ℤ (pos a +ℤ shift own s)) -ℤ pos 1 ≡ ((pos 0 -ℤ pos a) -ℤ pos 1) +ℤ neg_ℤ (shift own s) = omega (arith, ints) in
    same_differs own (negated s) (2 ^ 64 - 1 - a) (2 ^ 64 - 1 - x) (omega arith)
    (same_trans (complement_same x hx) (same_trans both (same_trans (same_equal again) (same_plus (same_sym (complement_same a ha)) (same_sym (shift_neg own s))))))
