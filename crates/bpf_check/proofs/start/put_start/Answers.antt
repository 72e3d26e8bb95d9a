use Rattle.std.proofs.Common.{arith}
use Rattle.bpf_check.proofs.CertificateFacts.{range_is_one}
use Rattle.bpf_check.proofs.start.put_start.Goals as goal

pub begin-requires : goal.begin-requires
begin-requires c = let range = range_is_one c.args.certificate.now c.valid.ensures in let l = c.least.ensures in let m = c.most.ensures in omega arith
