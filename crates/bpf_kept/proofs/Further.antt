-- What holds below a bound, one further.
use Rattle.std.proofs.Common.{◌≡◌, ℕ, ◌+◌, ◌<◌, inl, inr, subst, arith}
use Rattle.std.proofs.lemmas.Bool.{cases_lt}

pub one_more : (P : ℕ → Type 0) (n : ℕ) → ((r : ℕ) → r < n → P r) → P n → (r : ℕ) → r < n + 1 → P r
one_more P n below here r lt = elim (cases_lt r n) [ inl less ↦ below r less | inr more ↦ let e : n ≡ r = omega arith in subst P e here ]
