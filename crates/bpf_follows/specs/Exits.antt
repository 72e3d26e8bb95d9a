-- At which EXIT a run ends.
use Rattle.std.specs.Prelude.{◌≡◌, ℕ, zero, suc, List}
use Rattle.bpf_insn.specs.Instruction.{Instructions}
use Rattle.bpf_semantics.specs.State.{State, start}
use Rattle.bpf_semantics.specs.Step.{Finish}
use Rattle.bpf_semantics.specs.Run.{Steps}

-- The run on the context ends with v after k instructions, of which the last is the outermost EXIT, at this slot.
abbrev pub IsDoneAt : Instructions → List ℕ → ℕ → ℕ → ℕ → Type 0
IsDoneAt p context slot v zero = ⊥
IsDoneAt p context slot v (suc k) = (s : State) × Steps p k (start context) s × Finish p s v × (s.top.slot ≡ slot)
