use Rattle.std.proofs.Common.{◌≡◌, ◌++◌, map, take}
use Rattle.std.specs.Prelude.{drop}
use Rattle.bpf_kept.specs.Calls.{counter_waits}
use Rattle.bpf_kept.proofs.calls.returned_counters.Given as goal

-- those so far, and the rest as they were
abbrev pub invariant-loop-n : goal.invariant-loop-n
invariant-loop-n l = l.all ≡ take l.n (map (counter_waits l.left) l.fn.counters) ++ drop l.n l.fn.counters
