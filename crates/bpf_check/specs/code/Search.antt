-- Searches in lists that rise by a key.
use Rattle.std.specs.Prelude.{◌≡◌, ℕ, ◌==◌, ◌<◌, ◌≤◌, true, nat_le, nat_lt, Bool, List, [], ◌∷◌, Option, Some, None, if◌then◌else◌}
use Rattle.bpf_cert.specs.Limits.{is_rising}

-- each key is above the one before it
abbrev pub rises : {A : Type 0} → (A → ℕ) → List A → Bool
rises key xs = is_rising (λ x y. nat_lt (key x) (key y)) xs

-- the last of the first elements whose keys are at most a number
abbrev pub last_up_to : {A : Type 0} → (A → ℕ) → Option A → ℕ → List A → Option A
last_up_to key found n [] = found
last_up_to key found n (x ∷ xs) = if nat_le (key x) n then last_up_to key (Some x) n xs else found

-- what is the last up to a number, and up to those above it and below another, is that in a part
pub record IsFoundIn {A : Type 0} (key : A → ℕ) (n until : ℕ) (xs part : List A) : Type 0 where
  pub rises : rises key part ≡ true
  pub last : last_up_to key None n xs ≡ last_up_to key None n part
  pub later : (m : ℕ) → n ≤ m → m < until → last_up_to key None m xs ≡ last_up_to key None m part

-- an element whose key is the number
abbrev pub with_key : {A : Type 0} → (A → ℕ) → ℕ → Option A → Option A
with_key key n None = None
with_key key n (Some x) = if key x == n then Some x else None
