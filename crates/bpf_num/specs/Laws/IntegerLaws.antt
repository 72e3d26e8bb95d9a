-- Products of integers: the distributive law and the order, which std lacks.
use Rattle.std.proofs.Common.{◌≡◌, ℕ, zero, suc, ℤ, pos, negsuc, ◌+ℤ◌, ◌-ℤ◌, ◌*ℤ◌, ◌≤ℤ◌, sym, ◌∙◌, ap, ap₂, arith}
use Rattle.std.specs.Int.{int_min, int_max}
use Rattle.std.proofs.lemmas.Int.{ints, clamps}
use Rattle.std.proofs.Math.IntN.{suc_ℤ-*ℤ, pred_ℤ-*ℤ, zero-*ℤ, *ℤ_comm}

-- one more, and one less, in the left factor
pub suc-mul : (n : ℕ) (a : ℤ) → pos (suc n) *ℤ a ≡ pos n *ℤ a +ℤ a
suc-mul n a = suc_ℤ-*ℤ (pos n) a

pub negsuc-mul_zero : (a : ℤ) → negsuc zero *ℤ a ≡ pos zero -ℤ a
negsuc-mul_zero a = pred_ℤ-*ℤ (pos zero) a ∙ ap (λ z. z -ℤ a) (zero-*ℤ a)

pub negsuc-mul : (n : ℕ) (a : ℤ) → negsuc (suc n) *ℤ a ≡ negsuc n *ℤ a -ℤ a
negsuc-mul n a = pred_ℤ-*ℤ (negsuc n) a

-- products distribute over sums
pub mul_add : (k a b : ℤ) → k *ℤ (a +ℤ b) ≡ k *ℤ a +ℤ k *ℤ b
mul_add (pos n) a b = go n
  where
    go : (n : ℕ) → pos n *ℤ (a +ℤ b) ≡ pos n *ℤ a +ℤ pos n *ℤ b
    go zero = let e = zero-*ℤ (a +ℤ b) in let f = zero-*ℤ a in let g = zero-*ℤ b in omega (arith, ints)
    go (suc n) = let e = suc-mul n (a +ℤ b) in let f = suc-mul n a in let g = suc-mul n b in let h = go n in omega (arith, ints)
mul_add (negsuc n) a b = go n
  where
    go : (n : ℕ) → negsuc n *ℤ (a +ℤ b) ≡ negsuc n *ℤ a +ℤ negsuc n *ℤ b
    go zero = let e = negsuc-mul_zero (a +ℤ b) in let f = negsuc-mul_zero a in let g = negsuc-mul_zero b in omega (arith, ints)
    go (suc n) = let e = negsuc-mul n (a +ℤ b) in let f = negsuc-mul n a in let g = negsuc-mul n b in let h = go n in omega (arith, ints)

pub mul_sub : (k a b : ℤ) → k *ℤ (a -ℤ b) ≡ k *ℤ a -ℤ k *ℤ b
mul_sub k a b =
    let e : (a -ℤ b) +ℤ b ≡ a = omega (arith, ints) in
    let f : k *ℤ a ≡ k *ℤ (a -ℤ b) +ℤ k *ℤ b = ap (λ z. k *ℤ z) (sym e) ∙ mul_add k (a -ℤ b) b in
    omega (arith, ints)

-- the order under a factor that isn't negative, and under a negative one
pub mul_le_pos : (n : ℕ) (a b : ℤ) → a ≤ℤ b → (pos n *ℤ a) ≤ℤ (pos n *ℤ b)
mul_le_pos zero a b h = let f = zero-*ℤ a in let g = zero-*ℤ b in omega (arith, ints)
mul_le_pos (suc n) a b h = let f = suc-mul n a in let g = suc-mul n b in let i = mul_le_pos n a b h in omega (arith, ints)

pub mul_le_negsuc : (n : ℕ) (a b : ℤ) → a ≤ℤ b → (negsuc n *ℤ b) ≤ℤ (negsuc n *ℤ a)
mul_le_negsuc zero a b h = let f = negsuc-mul_zero a in let g = negsuc-mul_zero b in omega (arith, ints)
mul_le_negsuc (suc n) a b h = let f = negsuc-mul n a in let g = negsuc-mul n b in let i = mul_le_negsuc n a b h in omega (arith, ints)

-- ---- affine functions

pub record IsAffine (f : ℤ → ℤ) : Type 0 where
  pub start : ℤ
  pub slope : ℤ
  pub is : (x : ℤ) → f x ≡ start +ℤ slope *ℤ x

-- at an end of an interval an affine function is least, and greatest
pub least_at_end : (f : ℤ → ℤ) → IsAffine f → (lo x hi : ℤ) → lo ≤ℤ x → x ≤ℤ hi → (int_min (f lo) (f hi) ≤ℤ f x) × (f x ≤ℤ int_max (f lo) (f hi))
least_at_end f affine lo x hi low high = by_slope affine.slope affine.is
  where
    by_slope : (k : ℤ) → ((y : ℤ) → f y ≡ affine.start +ℤ k *ℤ y) → (int_min (f lo) (f hi) ≤ℤ f x) × (f x ≤ℤ int_max (f lo) (f hi))
    by_slope (pos n) is =
        let a = is lo in let b = is x in let c = is hi in
        let d = mul_le_pos n lo x low in let e = mul_le_pos n x hi high in
        (omega (arith, ints, clamps), omega (arith, ints, clamps))
    by_slope (negsuc n) is =
        let a = is lo in let b = is x in let c = is hi in
        let d = mul_le_negsuc n lo x low in let e = mul_le_negsuc n x hi high in
        (omega (arith, ints, clamps), omega (arith, ints, clamps))

pub constant_affine : (c : ℤ) → IsAffine (λ x. c)
constant_affine c = record { start = c; slope = pos zero; is = λ x. let e = zero-*ℤ x in omega (arith, ints) }

pub product_affine : (k : ℤ) → IsAffine (λ x. k *ℤ x)
product_affine k = record { start = pos zero; slope = k; is = λ x. omega (arith, ints) }

pub sum_affine : (f g : ℤ → ℤ) → IsAffine f → IsAffine g → IsAffine (λ x. f x +ℤ g x)
sum_affine f g a b =
    record {
      start = a.start +ℤ b.start;
      slope = a.slope +ℤ b.slope;
      is = λ x.
          let e = a.is x in let h = b.is x in
          let i : (a.slope +ℤ b.slope) *ℤ x ≡ a.slope *ℤ x +ℤ b.slope *ℤ x = *ℤ_comm (a.slope +ℤ b.slope) x ∙ mul_add x a.slope b.slope ∙ ap₂ (λ u v. u +ℤ v) (*ℤ_comm x a.slope) (*ℤ_comm x b.slope) in
          omega (arith, ints);
    }

pub difference_affine : (f g : ℤ → ℤ) → IsAffine f → IsAffine g → IsAffine (λ x. f x -ℤ g x)
difference_affine f g a b =
    record {
      start = a.start -ℤ b.start;
      slope = a.slope -ℤ b.slope;
      is = λ x.
          let e = a.is x in let h = b.is x in
          let i : (a.slope -ℤ b.slope) *ℤ x ≡ a.slope *ℤ x -ℤ b.slope *ℤ x = *ℤ_comm (a.slope -ℤ b.slope) x ∙ mul_sub x a.slope b.slope ∙ ap₂ (λ u v. u -ℤ v) (*ℤ_comm x a.slope) (*ℤ_comm x b.slope) in
          omega (arith, ints);
    }

-- an affine function of a sum
pub shifted_affine : (f : ℤ → ℤ) (d : ℤ) → IsAffine f → IsAffine (λ x. f (x +ℤ d))
shifted_affine f d a =
    record {
      start = a.start +ℤ a.slope *ℤ d;
      slope = a.slope;
      is = λ x. let e = a.is (x +ℤ d) in let h = mul_add a.slope x d in omega (arith, ints);
    }
