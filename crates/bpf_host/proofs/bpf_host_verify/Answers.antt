use Rattle.std.proofs.Common.{rules}
use Rattle.bpf_host.proofs.bpf_host_verify.Goals as goal

pub returns-clause-accepts : goal.returns-clause-accepts
returns-clause-accepts c = λ d few certifies.
    let told = c.verify.ensures.accepts d few certifies in
    search (rules, told)
