-- The same of the exact machine, on which a pointer isn't a number: less is said there, since fewer programs end.
use Rattle.std.specs.Prelude.{◌≡◌, ◌≢◌, ℕ, zero, suc, ◌+◌, ◌*◌, ◌<◌, ◌≤◌, ◌==◌, Bool, false, List, length, Option, Some, None, if◌then◌else◌}
use Rattle.bpf_insn.specs.Effects.{Access, access_of}
use Rattle.bpf_insn.specs.Laws.{AreBytes}
use Rattle.bpf_insn.specs.Instruction.{Instructions, insn_at, register_number, byte_count}
use Rattle.bpf_insn.specs.declared.instruction.Insn.{Insn}
use Rattle.bpf_semantics.specs.State.{State, register, start}
use Rattle.bpf_semantics.specs.Memory.{location_of}
use Rattle.bpf_semantics.specs.Memory.Location.{InFrame}
use Rattle.bpf_semantics.specs.Run.{IsDone, Steps, state_after}
use Rattle.bpf_semantics.specs.declared.value.Value.{Value}
use Rattle.bpf_kept.specs.Meaning.{Bounds, AreGiven, EndsAt, most_for_one}

abbrev pub is_at : ℕ → Option State → Bool
is_at slot None = false
is_at slot (Some s) = s.top.slot == slot

-- how often a run from s comes to the slot: how many of its first k states stand there
abbrev pub visits : Instructions → State → ℕ → ℕ → ℕ
visits p s zero slot = 0
visits p s (suc k) slot = visits p s k slot + (if is_at slot (state_after p k s) then 1 else 0)

-- the instruction at which a state stands accesses none of so many lowest bytes of a frame by another register than r10
abbrev pub LeavesLowest : Instructions → ℕ → State → Type 0
LeavesLowest p untouched s =
    (i : Insn) (a : Access) (base : Value) (n first : ℕ) → insn_at p.list s.top.slot ≡ Some i → access_of i ≡ Some a → register_number a.base ≢ 10
    → register s a.base ≡ Some base → location_of s (byte_count a.size) a.offset base ≡ Some (InFrame n first) → untouched ≤ first

-- The run on the context ends with v after k instructions, comes to no slot more than `turns` times, and leaves the lowest bytes of each frame to
-- r10.
pub record EndsExactly (p : Instructions) (context : List ℕ) (bounds : Bounds) (v k : ℕ) : Type 0 where
  pub done : IsDone p context v k
  pub few : (slot : ℕ) → visits p (start context) k slot ≤ bounds.turns
  pub leaves : (j : ℕ) (s : State) → j < k → Steps p j (start context) s → LeavesLowest p bounds.untouched s

-- On each context of so many bytes the new program ends with the number with which the old one ends on its own, if it ends so.
abbrev pub KeepsExactMeaning : Instructions → Instructions → Bounds → (ℕ → Type 0) → Type 0
KeepsExactMeaning old new bounds named =
    (own context : List ℕ) (v k : ℕ) → AreBytes context → length context ≡ bounds.length → AreGiven bounds.padded old.order own context → EndsExactly old own bounds v k
    → EndsAt new context v named (most_for_one * suc k)
