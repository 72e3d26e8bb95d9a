use Rattle.std.proofs.Common.{◌≡◌, ◌<◌, ℕ, None}
use Rattle.bpf_classic.specs.Valid.{fault_at}
use Rattle.bpf_classic.proofs.faults.lowest_fault.Given as goal

-- no instruction so far has a fault
abbrev pub invariant-loop-at : goal.invariant-loop-at
invariant-loop-at l = (j : ℕ) → j < l.at → fault_at l.kind l.raws j ≡ None
