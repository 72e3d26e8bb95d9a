use Rattle.std.proofs.Common.{◌≡◌}
use Rattle.bpf_kept.specs.Guards.{is_ahead}
use Rattle.bpf_kept.proofs.AheadLemmas.{ahead}
use Rattle.bpf_kept.proofs.guards.is_ahead.Given as goal

-- what follows from the slots so far on
abbrev pub invariant-ahead : goal.invariant-ahead
invariant-ahead g l = ahead (g.C.Code.program l.old) l.r l.need l.left l.slot ≡ is_ahead (g.C.Code.program l.old) l.r l.fn.slot l.need

abbrev pub decreases-ahead : goal.decreases-ahead
decreases-ahead g l = l.left
