-- What opening a name gives, and what is read there.
use Rattle.std.specs.Prelude.{◌⊎◌, ℕ, List, Option, Some, None, IfSome}
use Rattle.std.specs.Io.{StartsWith}
use Rattle.bpf_insn.specs.Reading.{ReadsImage}

-- the reader fails behind a beginning of its bytes
abbrev pub Fails : Option (List ℕ) → Type 0
Fails known = (given : List ℕ) × IfSome known (λ bytes. StartsWith bytes given)

-- From places, a name leads to the bytes of a reader, as far as they are known, or to None where it can't be opened; and
-- to the places after it.
abbrev pub Opening : Type 0 → Type 1
Opening S = S → List ℕ → Option (Option (List ℕ)) → S → Type 0

-- an image is read at the name: all its bytes, or the first of too many
pub record ReadsAt {S : Type 0} (opening : Opening S) (old : S) (name bytes : List ℕ) (new : S) : Type 0 where
  pub known : Option (List ℕ)
  pub opened : opening old name (Some known) new
  pub bytes_are : ReadsImage known bytes

-- the name can't be opened, or its reader fails
abbrev pub Unreadable : {S : Type 0} → Opening S → S → List ℕ → S → Type 0
Unreadable opening old name new = opening old name None new ⊎ ((known : Option (List ℕ)) × opening old name (Some known) new × Fails known)
