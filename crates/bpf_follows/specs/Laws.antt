-- What it says of the old program where the new one ends at a trap, or at another EXIT.
use Rattle.std.specs.Prelude.{◌≡◌, ℕ, ◌≤◌, true, false, List, length, Some}
use Rattle.bpf_insn.specs.Instruction.{Instructions, insn_at}
use Rattle.bpf_insn.specs.Laws.{AreBytes}
use Rattle.bpf_insn.specs.declared.instruction.Insn.TheVariants.{Exit}
use Rattle.bpf_semantics.specs.State.{frame_bytes}
use Rattle.bpf_semantics.specs.Flat.{Placement}
use Rattle.bpf_kept.specs.Anywhere.{IsFar, EndsAnyhow}
use Rattle.bpf_kept.specs.Exact.{EndsExactly}
use Rattle.bpf_kept.specs.Far.{near, wide}
use Rattle.bpf_kept.specs.Matching.{Notes, Matches, shown_turns, AreWithin, StandsForExit}
use Rattle.bpf_kept.specs.Meaning.{with_turns, FlatEnds, AreGiven}
use Rattle.bpf_kept.specs.declared.bounds.Bounds.{Bounds}
use Rattle.bpf_kept.specs.Shown.{Keeps}
use Rattle.bpf_kept.specs.States.{States}
use Rattle.bpf_follows.specs.Traps.{EndsByNotes, is_trap}

-- The old program ends with no number on what it is given, of the runs that are spoken of: not in the two flat runs, not at all far places, and not on
-- the exact machine.
pub record HasNoAnswer (old : Instructions) (own : List ℕ) (bounds : Bounds) : Type 0 where
  pub flat : (v k l : ℕ) → FlatEnds (near bounds.padded) old own bounds v k → FlatEnds (wide bounds.padded) old own bounds v l → ⊥
  pub far : (v : ℕ) → ((place : Placement) → IsFar bounds.padded place → EndsAnyhow place old own bounds v) → ⊥
  pub exact : bounds.untouched ≤ frame_bytes → (v k : ℕ) → EndsExactly old own bounds v k → ⊥

-- Where the new program keeps the meaning, and ends at a trap, the old one has no answer, with each number of turns of which the notes speak.
abbrev pub TrapsHaveNoAnswer : Type 0
TrapsHaveNoAnswer =
    (old new : Instructions) (notes : Notes) (bounds : Bounds) → Keeps old new notes bounds → (turns : ℕ) → AreWithin (shown_turns notes bounds.turns) turns
    → (own context : List ℕ) (w n : ℕ) → AreBytes context → length context ≡ bounds.length → AreGiven bounds.padded old.order own context → EndsByNotes new context notes w n true
    → HasNoAnswer old own (with_turns turns bounds)

-- Where the notes match, an EXIT that is no trap stands for one of the old program's.
abbrev pub NamedExitsStand : Type 0
NamedExitsStand =
    (old new : Instructions) (notes : Notes) (bounds : Bounds) (states : States) → Matches old new notes bounds states → (slot : ℕ) → insn_at new.list slot ≡ Some Exit
    → is_trap notes slot ≡ false → StandsForExit old notes slot
