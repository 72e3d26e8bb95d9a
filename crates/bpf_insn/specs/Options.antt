-- Options one after another.
use Rattle.std.specs.Prelude.{Option, option_and_then}

-- go on with the value, if there is one
infixl 10 ◌>>=◌
abbrev pub ◌>>=◌ : {A B : Type 0} → Option A → (A → Option B) → Option B
o >>= f = option_and_then f o
