use Rattle.std.proofs.Common.{◌-◌, ◌≤◌, vec_len}
use Rattle.std.specs.Io.KnownBytes.{Consumes}
use Rattle.bpf_insn.specs.Reading.{max_read}
use Rattle.bpf_insn.proofs.image.read_image.Given as goal

abbrev pub invariant-reads : goal.invariant-reads
invariant-reads g l = Consumes (g.R.Read.remaining l.fn.reader) (g.R.Read.remaining l.reader) l.bytes.items × (vec_len l.bytes ≤ max_read)

abbrev pub decreases-reads : goal.decreases-reads
decreases-reads g l = max_read - vec_len l.bytes
