use Rattle.std.proofs.Common.{◌≡◌, ◌++◌, List, ℕ, length}
use Rattle.std.specs.Io.KnownBytes.{Appends}
use Rattle.bpf_streams.specs.Escaped.{escaped, escaped_behind}
use Rattle.bpf_streams.proofs.escaped.write_codes.Given as goal

abbrev pub invariant-bytes : goal.invariant-bytes
invariant-bytes g l = (begun : List ℕ) × (escaped l.layout l.bytes ≡ begun ++ escaped_behind l.layout l.before l.rest) × Appends (g.W.Write.contents l.fn.out) (g.W.Write.contents l.out) begun

abbrev pub decreases-bytes : goal.decreases-bytes
decreases-bytes g l = length l.rest
