use Rattle.std.proofs.Common.{◌-◌, ◌≤◌}
use Rattle.bpf_captures.specs.Taken.{Passes}
use Rattle.bpf_captures.proofs.fill.skip.Given as goal

abbrev pub invariant-pieces : goal.invariant-pieces
invariant-pieces g l = Passes (g.R.Read.remaining l.fn.reader) (g.R.Read.remaining l.reader) l.passed × (l.passed ≤ l.count)

abbrev pub decreases-pieces : goal.decreases-pieces
decreases-pieces g l = l.count - l.passed
