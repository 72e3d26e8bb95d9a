use Rattle.std.proofs.Common.{◌≡◌, ◌-◌, true, take}
use Rattle.std.specs.List.{list_all}
use Rattle.bpf_cert.specs.Limits as limits
use Rattle.bpf_cert.proofs.limits.has_limited_slots.Given as goal

abbrev pub invariant-loop-k : goal.invariant-loop-k
invariant-loop-k l = list_all limits.is_limited_slot (take (l.k - 1) l.state.slots) ≡ true
