-- What a write leaves with a writer, where it tells its bytes.
use Rattle.std.specs.Prelude.{ℕ, List, ◌++◌, Option, Result, Ok, Err}
use Rattle.std.specs.Io.KnownBytes.{Appends}
use Rattle.bpf_insn.specs.Written.{AppendsBeginning, Gathers}

-- the whole text, and a beginning of it after a fault
abbrev pub Writes : {A E : Type 0} → Option (List ℕ) → Option (List ℕ) → List ℕ → Result A E → Type 0
Writes old new text (Ok u) = Appends old new text
Writes old new text (Err e) = AppendsBeginning old new text

-- the text put behind the bytes that wait, or a beginning of both after a fault
abbrev pub Puts : {A E : Type 0} → Option (List ℕ) → Option (List ℕ) → List ℕ → List ℕ → List ℕ → Result A E → Type 0
Puts old new waiting rest text (Ok u) = Gathers old new waiting rest text
Puts old new waiting rest text (Err e) = AppendsBeginning old new (waiting ++ text)
