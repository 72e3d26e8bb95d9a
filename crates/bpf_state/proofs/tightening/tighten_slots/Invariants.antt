use Rattle.std.proofs.Common.{◌≡◌, length}
use Rattle.std.specs.Prelude.{All}
use Rattle.bpf_state.specs.State.{each_if, tightened_slot, IsSlot}
use Rattle.bpf_state.proofs.ListLemmas.{done_to}
use Rattle.bpf_state.proofs.tightening.tighten_slots.Given as goal

abbrev pub invariant-loop-i : goal.invariant-loop-i
invariant-loop-i l = (done_to tightened_slot l.i l.slots ≡ each_if tightened_slot l.initial.slots) × All IsSlot l.slots × (length l.slots ≡ 64)
