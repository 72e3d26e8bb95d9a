use Rattle.std.proofs.Common.{◌-◌, ◌≤◌, length, take}
use Rattle.std.specs.Io.KnownBytes.{Consumes}
use Rattle.bpf_captures.proofs.fill.fill.Given as goal

abbrev pub invariant-reads : goal.invariant-reads
invariant-reads g l = Consumes (g.R.Read.remaining l.fn.reader) (g.R.Read.remaining l.reader) (take l.count l.room) × (l.count ≤ length l.room)

abbrev pub decreases-reads : goal.decreases-reads
decreases-reads g l = length l.room - l.count
