-- What several proofs of this crate use of options and integers.
use Rattle.std.proofs.Common.{◌≡◌, ℕ, refl, arith, ℤ, pos, negsuc, ◌≤ℤ◌, Some}
use Rattle.std.proofs.lemmas.Int.{ints}

pub some_is : {A : Type 0} (a b : A) → Some a ≡ Some b → a ≡ b
some_is a b e = cc

-- an integer that isn't negative is a natural number
pub natural : (z : ℤ) → pos 0 ≤ℤ z → (n : ℕ) × (z ≡ pos n)
natural (pos n) h = (n, refl)
natural (negsuc n) h = absurd (omega (arith, ints))
