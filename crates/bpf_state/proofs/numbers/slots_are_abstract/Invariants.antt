use Rattle.std.proofs.Common.{ℕ, ◌<◌, get_or}
use Rattle.bpf_state.specs.declared.known.SlotState.TheVariants.{Bytes}
use Rattle.bpf_state.specs.State.{IsAbstractSlot}
use Rattle.bpf_state.proofs.numbers.slots_are_abstract.Given as goal

abbrev pub invariant-loop-i : goal.invariant-loop-i
invariant-loop-i l = (k : ℕ) → k < l.i → IsAbstractSlot (get_or l.slots k (Bytes 0))
