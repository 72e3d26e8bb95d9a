use Rattle.std.proofs.Common.{◌+◌, ◌-◌, ◌≤◌, suc, length, vec_len}
use Rattle.std.specs.Io.KnownBytes.{Consumes}
use Rattle.bpf_answers.proofs.reading.read_up_to.Given as goal

abbrev pub invariant-reads : goal.invariant-reads
invariant-reads g l = Consumes (g.R.Read.remaining l.fn.reader) (g.R.Read.remaining l.reader) l.bytes.items × (length l.bytes.items ≤ l.limit + 4096)

abbrev pub decreases-reads : goal.decreases-reads
decreases-reads g l = suc l.limit - vec_len l.bytes
