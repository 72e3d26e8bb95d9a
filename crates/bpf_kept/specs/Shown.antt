-- What notes that match show, of a new program that is never stuck.
use Rattle.std.specs.Prelude.{ℕ, ◌≤◌}
use Rattle.bpf_insn.specs.Instruction.{Instructions}
use Rattle.bpf_semantics.specs.State.{frame_bytes}
use Rattle.bpf_kept.specs.Meaning.{Bounds, with_turns, KeepsFlatMeaning}
use Rattle.bpf_kept.specs.Anywhere.{KeepsFarMeaning}
use Rattle.bpf_kept.specs.Exact.{KeepsExactMeaning}
use Rattle.bpf_kept.specs.Matching.{Notes, shown_turns, AreWithin, StandsForExit}

-- The new program keeps the old one's meaning on each context of so many bytes, of the runs that come to no instruction too often in one call, and leave
-- the lowest bytes of each frame to r10: on plain addresses, with frames near and wide; so wherever memory lies far and whatever is uninitialised; and so
-- on the exact machine, where no more than a frame is left alone.
pub record KeepsRuns (old new : Instructions) (notes : Notes) (bounds : Bounds) : Type 0 where
  pub flat : KeepsFlatMeaning old new bounds (StandsForExit old notes)
  pub far : KeepsFarMeaning old new bounds (StandsForExit old notes)
  pub exact : bounds.untouched ≤ frame_bytes → KeepsExactMeaning old new bounds (StandsForExit old notes)

-- So it is for each number of turns of which the notes speak: for so many at most, and for any number where nothing counts. Each run makes some number.
pub record Keeps (old new : Instructions) (notes : Notes) (bounds : Bounds) : Type 0 where
  pub runs : (turns : ℕ) → AreWithin (shown_turns notes bounds.turns) turns → KeepsRuns old new notes (with_turns turns bounds)
