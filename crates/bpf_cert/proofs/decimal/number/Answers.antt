use Rattle.bpf_cert.proofs.NumberLemmas.{next_digit}
use Rattle.bpf_cert.proofs.decimal.number.Goals as goal

pub loop-digit-preserved : goal.loop-digit-preserved
loop-digit-preserved c = let step = next_digit c.args.digits.now c.loop-digit.digit-index c.loop-digit.number c.loop-digit-test.true c.loop-digit.invariant in cc
