-- How large the numbers of words get.
use Rattle.std.proofs.Common.{ℕ, ◌+◌, ◌*◌, ◌^◌, ◌<◌, ◌≤◌, arith, lit<}
use Rattle.std.proofs.Math.Nat.{pow-le-pow_right, mul-le-mul_left}

-- up to 20 digits
pub twenty_digits : (v i : ℕ) → v < 16 ^ i → i ≤ 20 → v < 2 ^ 80
twenty_digits v i small few = let most : 16 ^ i ≤ 16 ^ 20 = pow-le-pow_right {n = 16} (lit< tt) few in omega (arith, most)

pub one_more : (v base digit : ℕ) → v < 2 ^ 80 → base ≤ 16 → digit < 256 → v * base + digit < 2 ^ 128
one_more v base digit small few below = let most : v * base ≤ v * 16 = mul-le-mul_left v few in omega (arith, most)
