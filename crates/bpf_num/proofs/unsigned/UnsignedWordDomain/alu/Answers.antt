use Rattle.bpf_num.specs.Interval.{interval}
use Rattle.bpf_num.proofs.Parts.{or_is_interval}
use Rattle.bpf_num.proofs.unsigned.UnsignedWordDomain.alu.Goals as goal

pub invariant_of-t-4 : goal.invariant_of-t-4
invariant_of-t-4 c =
    let a = interval c.self.inside.lo c.self.inside.hi in
    let b = interval c.other.inside.lo c.other.inside.hi in
    rw (c.max.ensures, c.most_bits.ensures, ← c.self.view_is, ← c.other.view_is) (or_is_interval a b c.self.invariant c.other.invariant)
