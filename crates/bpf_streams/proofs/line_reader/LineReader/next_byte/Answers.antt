use Rattle.std.proofs.Common.{rules, arith}
use Rattle.bpf_streams.proofs.TakenLemmas.{byte_taken, keeps_same, first_byte}
use Rattle.bpf_streams.proofs.line_reader.LineReader.next_byte.Goals as goal
use Rattle.bpf_streams.proofs.line_reader.LineReader.next_byte.Goals.{then-self+in-Ok+else-count-eq0, else-self}

pub returns : goal.returns
returns g c =
    elim c.if-self.branch [
      | then-self+in-Ok+else-count-eq0 w ↦ rw w.self-inside-is (first_byte c.args.self.now (g.R.Read.remaining c.self.inside.reader) (g.R.Read.remaining w.read.new.self)
          c.self.inside.buffer w.read.new.buf c.self.inside.at c.self.inside.end w.in-Ok.count w.if-self.true c.self.view_is w.in-Ok.ensures.bytes.0 w.if-count-eq0.false w.in-Ok.ensures.bound.0)
      | else-self w ↦ rw w.self-inside-is (byte_taken c.args.self.now (g.R.Read.remaining c.self.inside.reader) c.self.inside.buffer c.self.inside.at c.self.inside.end (omega arith) (search rules) (keeps_same _ _ c.self.view_is))
    ]
