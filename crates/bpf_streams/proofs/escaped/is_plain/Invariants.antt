use Rattle.std.proofs.Common.{◌≡◌, length}
use Rattle.bpf_streams.specs.Escaped.{escaped_behind}
use Rattle.bpf_streams.proofs.escaped.is_plain.Given as goal

abbrev pub invariant-bytes : goal.invariant-bytes
invariant-bytes l = escaped_behind l.layout l.before l.rest ≡ l.rest → escaped_behind l.layout 0 l.bytes ≡ l.bytes

abbrev pub decreases-bytes : goal.decreases-bytes
decreases-bytes l = length l.rest
