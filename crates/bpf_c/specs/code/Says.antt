-- A page between a text and a writer, which keeps the writer's first fault.
use Rattle.std.specs.Prelude.{◌++◌, ℕ, List, [], Option, Bool, true, false}
use Rattle.bpf_insn.specs.Written.{AppendsBeginning, Gathers}

-- what waits to go out, and whether the writer failed
pub record Sheet : Type 0 where
  pub waits : List ℕ
  pub failed : Bool

abbrev pub StandsIf : Bool → Option (List ℕ) → List ℕ → Option (List ℕ) → List ℕ → Type 0
StandsIf true start text now waits = AppendsBeginning start now text
StandsIf false start text now waits = Gathers start now [] waits text

-- since the start a text was put: a front of it went out and the rest waits; or the writer failed, and has a beginning of it
abbrev pub Stands : Option (List ℕ) → List ℕ → Option (List ℕ) → Sheet → Type 0
Stands start text now sheet = StandsIf sheet.failed start text now sheet.waits

-- whatever was put before, this text was put behind it
pub record Says (old : Option (List ℕ)) (sheet : Sheet) (text : List ℕ) (new : Option (List ℕ)) (after : Sheet) : Type 0 where
  pub says : (start : Option (List ℕ)) → (before : List ℕ) → Stands start before old sheet → Stands start (before ++ text) new after
