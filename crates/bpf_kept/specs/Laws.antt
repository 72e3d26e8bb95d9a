-- The laws. Each is proved as the contract of a function of its own.
use Rattle.std.specs.Prelude.{◌≡◌, ℕ, suc, ◌+◌, ◌%◌, ◌^◌, ◌<◌, ◌≤◌, Bool, List, length, Some}
use Rattle.bpf_insn.specs.Image.{IsProgram}
use Rattle.bpf_insn.specs.Laws.{AreBytes}
use Rattle.bpf_insn.specs.Instruction.{Instructions}
use Rattle.bpf_insn.specs.declared.order.Order.{Order}
use Rattle.bpf_semantics.specs.State.{State, frame_bytes, max_frames, start}
use Rattle.bpf_semantics.specs.Step.{Finish}
use Rattle.bpf_semantics.specs.Run.{Steps}
use Rattle.bpf_semantics.specs.Flat.{Placement, FlatState, FlatStep, IsAmong, addresses, frame_start}
use Rattle.bpf_semantics.specs.Placement.{IsPlacement, IsFlatStart, IsInMemory}
use Rattle.bpf_kept.specs.Far.{near, wide}
use Rattle.bpf_kept.specs.Zero.{zero_start, zero_step, IsZeroState}
use Rattle.bpf_cert.specs.Limits.{IsCertificate}
use Rattle.bpf_cert.specs.View.{CertificateView}
use Rattle.bpf_safety.specs.Certified.{Certified}
use Rattle.bpf_kept.specs.Meaning.{Bounds, with_turns, FlatEnds, AreGiven, KeepsFlatMeaning, NeverStuck}
use Rattle.bpf_kept.specs.States.{States, states_of, AreStates, AreFrom}
use Rattle.bpf_kept.specs.Anywhere.{IsFar, EndsAnyhow, KeepsFarMeaning}
use Rattle.bpf_kept.specs.Exact.{EndsExactly, KeepsExactMeaning}
use Rattle.bpf_kept.specs.Matching.{Notes, Matches, shown_turns, AreWithin, StandsForExit, MayEnd}

-- ---- the far placements

-- Both are placements of each context that is much shorter than the addresses are many, in a block too.
abbrev pub FarIsPlacement : Type 0
FarIsPlacement = (padded : Bool) (len : ℕ) → len < 2 ^ 62 → IsPlacement len (near padded) × IsPlacement len (wide padded)

-- One address that is inside at both lies in the context.
abbrev pub OneAddressIsContext : Type 0
OneAddressIsContext =
    (padded : Bool) (len live a : ℕ) → live < max_frames → IsInMemory (near padded) len live a → IsInMemory (wide padded) len live a
    → IsAmong (near padded).context len a

-- One distance from the first byte of a frame that is inside at both lies in that frame.
abbrev pub OneDistanceIsFrame : Type 0
OneDistanceIsFrame =
    (padded : Bool) (len live n x : ℕ) → live < max_frames → n < max_frames → x < addresses → len < 2 ^ 49
    → IsInMemory (near padded) len live ((frame_start (near padded) n + x) % addresses) → IsInMemory (wide padded) len live ((frame_start (wide padded) n + x) % addresses)
    → x < frame_bytes

-- ---- the run that takes 0

-- Its start is a start of the flat machine, its steps are steps, and they keep what its states are.
abbrev pub ZeroStartFits : Type 0
ZeroStartFits = (order : Order) (place : Placement) (context : List ℕ) → AreBytes context → IsPlacement (length context) place → IsFlatStart order place context (zero_start place context) × IsZeroState (zero_start place context)

abbrev pub ZeroStepIsStep : Type 0
ZeroStepIsStep = (place : Placement) (p : Instructions) (f g : FlatState) → IsProgram p.list → IsZeroState f → zero_step place p f ≡ Some g → FlatStep place p f g × IsZeroState g

-- ---- notes that match show that the meaning is kept

-- for a new program that is never stuck and whose states are known, and for each number of turns of which the notes speak
abbrev pub MatchingKeepsFlatMeaning : Type 0
MatchingKeepsFlatMeaning =
    (old new : Instructions) (notes : Notes) (bounds : Bounds) (states : States) → IsProgram old.list → IsProgram new.list → Matches old new notes bounds states
    → NeverStuck new bounds.length → AreStates new bounds.length states
    → (turns : ℕ) → AreWithin (shown_turns notes bounds.turns) turns → KeepsFlatMeaning old new (with_turns turns bounds) (StandsForExit old notes)

-- with a certificate of the new program, for a range of lengths in which the contexts' is, by notes alone or with the states that its check has
abbrev pub CertifiedKeepsFlatMeaning : Type 0
CertifiedKeepsFlatMeaning =
    (old new : Instructions) (notes : Notes) (bounds : Bounds) (states : States) (c : CertificateView) → IsProgram old.list → IsProgram new.list → IsCertificate c → Certified new c
    → c.least ≤ bounds.length → bounds.length ≤ c.most → AreFrom new c states → Matches old new notes bounds states
    → (turns : ℕ) → AreWithin (shown_turns notes bounds.turns) turns → KeepsFlatMeaning old new (with_turns turns bounds) (StandsForExit old notes)

-- ---- traps

-- Where the meaning is kept and the new program ends at an exit that stands for none of the old one's, that has no answer.
abbrev pub OtherExitsAreTraps : Type 0
OtherExitsAreTraps =
    (old new : Instructions) (notes : Notes) (bounds : Bounds) → KeepsFlatMeaning old new bounds (StandsForExit old notes)
    → (own context : List ℕ) (v w k l n : ℕ) (s : State) → AreBytes context → length context ≡ bounds.length → AreGiven bounds.padded old.order own context
    → Steps new n (start context) s → Finish new s w → (StandsForExit old notes s.top.slot → ⊥)
    → FlatEnds (near bounds.padded) old own bounds v k → FlatEnds (wide bounds.padded) old own bounds v l → ⊥

-- Where the certificate's check reaches none of the exits that stand for the old one's, that has no answer on any context of so many bytes.
abbrev pub NoExitNoAnswer : Type 0
NoExitNoAnswer =
    (old new : Instructions) (notes : Notes) (bounds : Bounds) (c : CertificateView) → IsProgram new.list → IsCertificate c → Certified new c → c.least ≤ bounds.length → bounds.length ≤ c.most
    → KeepsFlatMeaning old new bounds (StandsForExit old notes) → (MayEnd old notes (states_of new c) → ⊥)
    → (own context : List ℕ) (v k l : ℕ) → AreBytes context → length context ≡ bounds.length → AreGiven bounds.padded old.order own context
    → FlatEnds (near bounds.padded) old own bounds v k → FlatEnds (wide bounds.padded) old own bounds v l → ⊥

-- ---- the exact machine

-- A run that ends on the exact machine ends so on plain addresses, wherever context and frames lie.
abbrev pub ExactRunsAreFlat : Type 0
ExactRunsAreFlat =
    (place : Placement) (p : Instructions) (context : List ℕ) (bounds : Bounds) (v k : ℕ) → IsProgram p.list → AreBytes context → IsPlacement (length context) place → bounds.untouched ≤ frame_bytes
    → EndsExactly p context bounds v (suc k) → FlatEnds place p context bounds v k

-- So what is kept on plain addresses is kept on the exact machine.
abbrev pub FlatMeaningIsExact : Type 0
FlatMeaningIsExact =
    (old new : Instructions) (notes : Notes) (bounds : Bounds) → IsProgram old.list → bounds.length < 2 ^ 62 → bounds.untouched ≤ frame_bytes
    → KeepsFlatMeaning old new bounds (StandsForExit old notes) → KeepsExactMeaning old new bounds (StandsForExit old notes)

-- ---- all far placements, and all that is left open

-- Both far placements are far.
abbrev pub NearAndWideAreFar : Type 0
NearAndWideAreFar = (padded : Bool) → IsFar padded (near padded) × IsFar padded (wide padded)

-- Where each run ends with v, the one that takes 0 does.
abbrev pub ZeroRunEnds : Type 0
ZeroRunEnds =
    (place : Placement) (p : Instructions) (own : List ℕ) (bounds : Bounds) (v : ℕ) → IsProgram p.list → AreBytes own → IsPlacement (length own) place → EndsAnyhow place p own bounds v
    → (k : ℕ) × FlatEnds place p own bounds v k

-- So what is kept of the two runs is kept of all.
abbrev pub FlatMeaningIsFar : Type 0
FlatMeaningIsFar =
    (old new : Instructions) (notes : Notes) (bounds : Bounds) → IsProgram old.list → bounds.length < 2 ^ 62
    → KeepsFlatMeaning old new bounds (StandsForExit old notes) → KeepsFarMeaning old new bounds (StandsForExit old notes)
