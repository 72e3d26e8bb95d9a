-- Counts add up.
use Rattle.std.proofs.Common.{◌≡◌, ℕ, zero, suc, ◌+◌, ◌-◌, ◌^◌, ◌≤◌, ◌∙◌, refl, ap, arith}
use Rattle.std.proofs.Math.Nat.{min-eq_left}
use Rattle.bpf_state.specs.Work.{counted}
use Rattle.bpf_check.specs.code.Counting.{counted_times}

pub times_more : (a b n : ℕ) → counted_times b (counted_times a n) ≡ counted_times (a + b) n
times_more a zero n = let same : a ≡ a + 0 = omega arith in ap (λ k. counted_times k n) same
times_more a (suc b) n = let next : suc (a + b) ≡ a + suc b = omega arith in ap counted (times_more a b n) ∙ ap (λ k. counted_times k n) next

-- few enough are counted each
pub counts_all : (k : ℕ) → k ≤ 2 ^ 32 - 1 → counted_times k 0 ≡ k
counts_all zero few = refl
counts_all (suc k) few = ap counted (counts_all k (omega arith)) ∙ one
  where
    next : k + 1 ≡ suc k
    next = omega arith

    one : counted k ≡ suc k
    one = min-eq_left (omega arith) ∙ next
