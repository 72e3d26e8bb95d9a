-- The lines that tell the numbers with which runs end: one for each run, or one for each number.
use Rattle.std.specs.Prelude.{◌≡◌, ℕ, ◌+◌, ◌==◌, Bool, true, false, List, [], ◌∷◌, Option, Some, None, codes, decimal, flat_map, if◌then◌else◌}
use Rattle.std.specs.List.{concat}
use Rattle.std.specs.Ordering.{is_eq, nat_cmp}
use Rattle.std.specs.List.Sorted.{IsStrictlySortedBy}
use Rattle.std.specs.Map.{keys_of, lookup}

-- `done 1`
abbrev pub value_line : ℕ → List ℕ
value_line value = concat (codes "done " ∷ decimal value ∷ codes "\n" ∷ [])

-- `done 1 times 37`: a number, and how often it came
abbrev pub count_line : ℕ × ℕ → List ℕ
count_line count = concat (codes "done " ∷ decimal count.0 ∷ codes " times " ∷ decimal count.1 ∷ codes "\n" ∷ [])

-- how often a number is among these
unfoldable pub times_in : ℕ → List ℕ → ℕ
times_in value [] = 0
times_in value (x ∷ xs) = if x == value then 1 + times_in value xs else times_in value xs

-- None for never
abbrev pub times_if : ℕ → Option ℕ
times_if n = if n == 0 then None else Some n

-- Each number that is among these has one entry, with how often it is, and no other number has one; the numbers ascend.
pub record AreCounts (values : List ℕ) (counts : List (ℕ × ℕ)) : Type 0 where
  pub ordered : IsStrictlySortedBy nat_cmp (keys_of counts)
  pub counted : (value : ℕ) → lookup (λ key. is_eq (nat_cmp value key)) counts ≡ times_if (times_in value values)

-- the text that tells these numbers: a line for each, in this order; or where it is counted, a line for each entry
abbrev pub IsTold : Bool → List ℕ → List ℕ → Type 0
IsTold false values text = text ≡ flat_map value_line values
IsTold true values text = (counts : List (ℕ × ℕ)) × AreCounts values counts × (text ≡ flat_map count_line counts)
