use Rattle.std.proofs.Common.{◌≡◌, ◌-◌, replicate}
use Rattle.bpf_state.specs.declared.known.SlotState.TheVariants.{Bytes}
use Rattle.bpf_state.proofs.MixLemmas.{mix}
use Rattle.bpf_state.proofs.entries.put_slots.Given as goal

abbrev pub invariant-loop-k : goal.invariant-loop-k
invariant-loop-k l = l.entries ≡ record l.fn.entries { slots = mix (l.k - 1) l.state.slots (replicate 64 (Bytes 0)) }
