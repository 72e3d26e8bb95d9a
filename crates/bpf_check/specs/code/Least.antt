-- The least flaw of a list: the lowest slot, and there the lowest number.
use Rattle.std.specs.Prelude.{◌≡◌, ℕ, ◌<◌, ◌≤◌, ◌⊎◌, List, Contains, Option, Some, None, option_map}
use Rattle.bpf_check.specs.RefusalNumbers.{flaw_of}
use Rattle.bpf_check.specs.declared.refusal.Refusal.{Refusal}

-- a flaw is at most another: at a lower slot, or at the same one with a number that isn't greater
abbrev pub IsAtMost : ℕ × ℕ → ℕ × ℕ → Type 0
IsAtMost a b = (a.0 < b.0) ⊎ ((a.0 ≡ b.0) × (a.1 ≤ b.1))

-- the least of the flaws, or none if there is none
abbrev pub IsLeastIn : List (ℕ × ℕ) → Option (ℕ × ℕ) → Type 0
IsLeastIn flaws None = (a : ℕ × ℕ) → Contains flaws a → ⊥
IsLeastIn flaws (Some a) = Contains flaws a × ((b : ℕ × ℕ) → Contains flaws b → IsAtMost a b)

-- a refusal names the least of the flaws, or there is no flaw and no refusal
abbrev pub IsLeastRefusal : List (ℕ × ℕ) → Option Refusal → Type 0
IsLeastRefusal flaws refusal = IsLeastIn flaws (option_map flaw_of refusal)
