use Rattle.bpf_num.specs.Interval.{interval}
use Rattle.bpf_num.proofs.Parts.{truncated_16, truncated_32}
use Rattle.bpf_num.proofs.unsigned.UnsignedWordDomain.truncate.Goals.{in-B16, in-B32}
use Rattle.bpf_num.proofs.unsigned.UnsignedWordDomain.truncate.Goals as goal

pub returns-then-same_above : goal.returns-then-same_above
returns-then-same_above c =
    let a = interval c.self.inside.lo c.self.inside.hi in
    rw (← c.self.view_is)
    (elim c.match-size.branch [
      | in-B16 w ↦ rw (w.in-B16.is, w.same_above-is) (truncated_16 a (rw w.same_above-is at c.if-same_above.true))
      | in-B32 w ↦ rw (w.in-B32.is, w.same_above-is) (truncated_32 a (rw w.same_above-is at c.if-same_above.true))
    ])
