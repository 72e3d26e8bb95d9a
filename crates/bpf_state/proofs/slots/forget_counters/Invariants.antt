use Rattle.std.proofs.Common.{None}
use Rattle.bpf_state.proofs.SlotLemmas.{ChangedTo}
use Rattle.bpf_state.proofs.slots.forget_counters.Given as goal

abbrev pub invariant-loop-i : goal.invariant-loop-i
invariant-loop-i l = ChangedTo None (λ k t. None) l.first l.i l.initial.tags l.tags
