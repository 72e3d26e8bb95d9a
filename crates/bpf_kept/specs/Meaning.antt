-- What it means that a new program keeps the meaning of an old one, of the run that a C programmer's program makes: on plain addresses.
use Rattle.std.specs.Prelude.{◌≡◌, ◌≢◌, ℕ, zero, suc, ◌+◌, ◌*◌, ◌%◌, ◌<◌, ◌≤◌, ◌==◌, nat_lt, ◌&&◌, Bool, true, false, List, length, Option, Some, None, if◌then◌else◌}
use Rattle.bpf_insn.specs.Effects.{Access, access_of}
use Rattle.bpf_insn.specs.Laws.{AreBytes}
use Rattle.bpf_insn.specs.Instruction.{Instructions, insn_at, register_number, byte_count}
use Rattle.bpf_insn.specs.declared.instruction.Insn.{Insn}
use Rattle.bpf_insn.specs.declared.order.Order.{Order}
use Rattle.bpf_semantics.specs.State.{State, start}
use Rattle.bpf_semantics.specs.Step.{Finish, IsStuck}
use Rattle.bpf_semantics.specs.Run.{Steps}
use Rattle.bpf_semantics.specs.Flat.{Placement, FlatState, FlatFinish, IsAmong, addresses, address, frame_start}
use Rattle.bpf_semantics.specs.Placement.{StaysInside}
use Rattle.bpf_semantics.specs.Blocks.{IsBlock}
use Rattle.bpf_kept.specs.Far.{near, wide}
use Rattle.bpf_kept.specs.Zero.{zero_start, zero_after}
-- Of which runs it is said: how many bytes a context has, a block where contexts are blocks (`padded`); how often a call of a function comes to an
-- instruction at most; and how many of the lowest bytes of each frame are accessed by r10 alone.
pub use Rattle.bpf_kept.specs.declared.bounds.Bounds.{Bounds}

-- the same, of another number of turns
abbrev pub with_turns : ℕ → Bounds → Bounds
with_turns turns bounds = record { length = bounds.length; padded = bounds.padded; turns = turns; untouched = bounds.untouched }

-- ---- the old program's run

-- the instruction at which a state stands accesses none of so many lowest bytes of a live frame by another register than r10
abbrev pub LeavesLowestFlat : Placement → Instructions → ℕ → FlatState → Type 0
LeavesLowestFlat place p untouched f =
    (i : Insn) (a : Access) (j n : ℕ) → insn_at p.list f.slot ≡ Some i → access_of i ≡ Some a → register_number a.base ≢ 10 → j < byte_count a.size
    → n ≤ length f.returns → IsAmong (frame_start place n) untouched ((address f a.base a.offset + j) % addresses) → ⊥

-- how often the call that runs after j steps, at a depth, has come to a slot: back to where it was entered
abbrev pub counted : ℕ → ℕ → FlatState → ℕ
counted slot deep f = if f.slot == slot && length f.returns == deep then 1 else 0

abbrev pub turns_to : ℕ → ℕ → Option FlatState → ℕ → ℕ
turns_to slot deep None before = 0
turns_to slot deep (Some f) before = if nat_lt (length f.returns) deep then 0 else counted slot deep f + before

unfoldable pub turns_in_call : Placement → Instructions → FlatState → ℕ → ℕ → ℕ → ℕ
turns_in_call place p first slot deep zero = turns_to slot deep (Some first) 0
turns_in_call place p first slot deep (suc j) = turns_to slot deep (zero_after place p (suc j) first) (turns_in_call place p first slot deep j)

-- The old program's run on its own context, with memory placed so and 0 in all that is left open, ends with v after k steps. On its way it stays
-- inside of the context and its frames, leaves their lowest bytes to r10, and comes to no instruction too often in one call.
pub record FlatEnds (place : Placement) (p : Instructions) (own : List ℕ) (bounds : Bounds) (v k : ℕ) : Type 0 where
  pub last : FlatState
  pub run : zero_after place p k (zero_start place own) ≡ Some last
  pub finish : FlatFinish p last v
  pub stays : (j : ℕ) (f : FlatState) → j ≤ k → zero_after place p j (zero_start place own) ≡ Some f → StaysInside place (length own) p f
  pub leaves : (j : ℕ) (f : FlatState) → j ≤ k → zero_after place p j (zero_start place own) ≡ Some f → LeavesLowestFlat place p bounds.untouched f
  pub few : (j : ℕ) (f : FlatState) → j ≤ k → zero_after place p j (zero_start place own) ≡ Some f → turns_in_call place p (zero_start place own) f.slot (length f.returns) j ≤ bounds.turns

-- ---- the new program's

-- The run on the context ends with v, at a slot of which something holds, within so many instructions.
pub record EndsAt (p : Instructions) (context : List ℕ) (v : ℕ) (named : ℕ → Type 0) (most : ℕ) : Type 0 where
  pub steps : ℕ
  pub state : State
  pub run : Steps p steps (start context) state
  pub finish : Finish p state v
  pub at_exit : named state.top.slot
  pub few : suc steps ≤ most

-- ---- the meaning

-- What both are given: one context; or, in blocks, the new program a block, and the old one the packet that it holds.
abbrev pub AreGiven : Bool → Order → List ℕ → List ℕ → Type 0
AreGiven false order own context = own ≡ context
AreGiven true order own context = IsBlock order own context

-- The greatest number of instructions that the new program does for one of the old one's.
abbrev pub most_for_one : ℕ
most_for_one = 129

-- On each context of so many bytes, which are below 256: if the old program, on its own, ends with v where frames lie near and where they lie
-- wide, then the new one ends with v, at one of the named exits. For each of the old one's k + 1 instructions it does at most so many, and at the
-- start as many once more.
abbrev pub KeepsFlatMeaning : Instructions → Instructions → Bounds → (ℕ → Type 0) → Type 0
KeepsFlatMeaning old new bounds named =
    (own context : List ℕ) (v k l : ℕ) → AreBytes context → length context ≡ bounds.length → AreGiven bounds.padded old.order own context
    → FlatEnds (near bounds.padded) old own bounds v k → FlatEnds (wide bounds.padded) old own bounds v l
    → EndsAt new context v named (most_for_one * suc (suc k))

-- what the new program's certificate promises: on no such context its run is stuck
abbrev pub NeverStuck : Instructions → ℕ → Type 0
NeverStuck p len = (context : List ℕ) (k : ℕ) (s : State) → AreBytes context → length context ≡ len → Steps p k (start context) s → IsStuck p s → ⊥
