use Rattle.bpf_num.specs.SignedInterval.{signed_interval}
use Rattle.bpf_num.proofs.Parts.{halved_held}
use Rattle.bpf_num.proofs.signed.Signed.halved.Goals as goal

pub invariant_of-result : goal.invariant_of-result
invariant_of-result c = halved_held c.args.amount (signed_interval c.self.inside.lo c.self.inside.hi) c.self.invariant
