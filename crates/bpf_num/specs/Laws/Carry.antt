-- Bits of a sum between the sums of lesser and of greater numbers.
use Rattle.std.proofs.Common.{◌≡◌, ℕ, zero, suc, ◌+◌, ◌/◌, ◌%◌, ◌≤◌, sym, ◌∙◌, ap, subst, arith}
use Rattle.std.specs.Int.{bit_at}
use Rattle.std.proofs.lemmas.Nat.Bits.{bit_at_lowest, bit_at-suc}

-- up to the place i each bit of x is at least that of p and at most that of q
abbrev pub Between : ℕ → ℕ → ℕ → ℕ → Type 0
Between i p x q = (j : ℕ) → j ≤ i → (bit_at p j ≤ bit_at x j) × (bit_at x j ≤ bit_at q j)

Between-half : (i p x q : ℕ) → Between (suc i) p x q → Between i (p / 2) (x / 2) (q / 2)
Between-half i p x q h j le =
    let k : suc j ≤ suc i = omega arith in (
      subst (λ v. v ≤ bit_at (x / 2) j) (bit_at-suc p j) (subst (λ v. bit_at p (suc j) ≤ v) (bit_at-suc x j) (h (suc j) k).0),
      subst (λ v. v ≤ bit_at (q / 2) j) (bit_at-suc x j) (subst (λ v. bit_at x (suc j) ≤ v) (bit_at-suc q j) (h (suc j) k).1),
    )

Between-first : (i p x q : ℕ) → Between i p x q → (p % 2 ≤ x % 2) × (x % 2 ≤ q % 2)
Between-first i p x q h = (
  subst (λ v. v ≤ x % 2) (bit_at_lowest p) (subst (λ v. bit_at p 0 ≤ v) (bit_at_lowest x) (h 0 (omega arith)).0),
  subst (λ v. v ≤ q % 2) (bit_at_lowest x) (subst (λ v. bit_at x 0 ≤ v) (bit_at_lowest q) (h 0 (omega arith)).1),
)

-- the half of a sum of two numbers and a carry
half_sum : (x y c : ℕ) → (x + y + c) / 2 ≡ x / 2 + y / 2 + (x % 2 + y % 2 + c) / 2
half_sum x y c = omega arith

-- where the bits at i are known and the sums of the least and of the greatest agree there, so does each sum between
pub carry_known : (i p x q r y s low c high : ℕ) → Between i p x q → Between i r y s → bit_at p i ≡ bit_at q i → bit_at r i ≡ bit_at s i → low ≤ c → c ≤ high → high ≤ 1 → bit_at (p + r + low) i ≡ bit_at (q + s + high) i → bit_at (x + y + c) i ≡ bit_at (p + r + low) i
carry_known zero p x q r y s low c high h k e f l m n agree =
    let a = Between-first zero p x q h in
    let b = Between-first zero r y s k in
    let e' : p % 2 ≡ q % 2 = sym (bit_at_lowest p) ∙ e ∙ bit_at_lowest q in
    let f' : r % 2 ≡ s % 2 = sym (bit_at_lowest r) ∙ f ∙ bit_at_lowest s in
    let g : (p + r + low) % 2 ≡ (q + s + high) % 2 = sym (bit_at_lowest (p + r + low)) ∙ agree ∙ bit_at_lowest (q + s + high) in
    let done : (x + y + c) % 2 ≡ (p + r + low) % 2 = omega arith in
    bit_at_lowest (x + y + c) ∙ done ∙ sym (bit_at_lowest (p + r + low))
carry_known (suc i) p x q r y s low c high h k e f l m n agree =
    let a = Between-first (suc i) p x q h in
    let b = Between-first (suc i) r y s k in
    let low' = (p % 2 + r % 2 + low) / 2 in
    let c' = (x % 2 + y % 2 + c) / 2 in
    let high' = (q % 2 + s % 2 + high) / 2 in
    let at : (u v w : ℕ) → bit_at (u + v + w) (suc i) ≡ bit_at (u / 2 + v / 2 + (u % 2 + v % 2 + w) / 2) i = λ u v w. bit_at-suc (u + v + w) i ∙ ap (λ n. bit_at n i) (half_sum u v w) in
    at x y c
    ∙ carry_known i (p / 2) (x / 2) (q / 2) (r / 2) (y / 2) (s / 2) low' c' high' (Between-half i p x q h) (Between-half i r y s k)
    (sym (bit_at-suc p i) ∙ e ∙ bit_at-suc q i) (sym (bit_at-suc r i) ∙ f ∙ bit_at-suc s i)
    (omega arith) (omega arith) (omega arith) (sym (at p r low) ∙ agree ∙ at q s high)
    ∙ sym (at p r low)
