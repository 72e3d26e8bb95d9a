-- What the simulation is given: both programs, notes that match, a context, the old program's two runs, and that the new one is never stuck.
use Rattle.std.proofs.Common.{◌≡◌, ℕ, zero, suc, ◌+◌, List, [], ◌∷◌, length}
use Rattle.bpf_insn.specs.Image.{IsProgram}
use Rattle.bpf_insn.specs.Laws.{AreBytes}
use Rattle.bpf_insn.specs.declared.order.Order.{Order}
use Rattle.bpf_insn.specs.declared.instruction.Insn.{Insn}
use Rattle.bpf_semantics.specs.State.{State, start}
use Rattle.bpf_semantics.specs.Step.{IsStuck}
use Rattle.bpf_semantics.specs.Run.{Steps}
use Rattle.bpf_semantics.specs.Flat.{Placement, frame_start}
use Rattle.bpf_kept.specs.Far.{middle, bytes_before, near, wide}
use Rattle.bpf_kept.specs.Meaning.{Bounds, with_turns, FlatEnds, AreGiven}
use Rattle.bpf_kept.specs.Terms.{Packet}
use Rattle.bpf_kept.specs.States.{States, AreStates}
use Rattle.bpf_kept.specs.Matching.{Notes, Matches, left_alone, shown_turns, AreWithin}
use Rattle.bpf_kept.proofs.Simulation.{program}

pub record Setting : Type 0 where
  pub order : Order
  pub is : List Insn
  pub js : List Insn
  pub notes : Notes
  pub bounds : Bounds
  pub old_valid : IsProgram is
  pub new_valid : IsProgram js
  pub states : States
  pub matches : Matches (program order is) (program order js) notes bounds states
  pub own : List ℕ
  pub context : List ℕ
  pub own_is : AreGiven bounds.padded order own context
  pub bytes : AreBytes context
  pub long : length context ≡ bounds.length
  pub never : (k : ℕ) (s : State) → Steps (program order js) k (start context) s → IsStuck (program order js) s → ⊥
  pub states_are : AreStates (program order js) bounds.length states
  pub v : ℕ
  pub k : ℕ
  pub l : ℕ
  pub turns : ℕ
  pub few_turns : AreWithin (shown_turns notes bounds.turns) turns
  pub near_ends : FlatEnds (near bounds.padded) (program order is) own (with_turns turns bounds) v k
  pub wide_ends : FlatEnds (wide bounds.padded) (program order is) own (with_turns turns bounds) v l

-- of which runs of the old program
abbrev pub runs : Setting → Bounds
runs given = with_turns given.turns given.bounds

-- where the frames begin that wait, if there are so many
abbrev pub starts_below : Placement → ℕ → List ℕ
starts_below place zero = []
starts_below place (suc n) = frame_start place n ∷ starts_below place n

-- what the old program is given, and the frames that wait
abbrev pub packet_of : Setting → List ℕ → Packet
packet_of given waiting =
    record {
      first = middle + bytes_before given.bounds.padded;
      length = length given.own;
      waiting = waiting;
      left = left_alone (program given.order given.js) given.bounds.untouched;
    }
