use Rattle.std.proofs.Common.{◌≡◌, pos, rules}
use Rattle.bpf_host.proofs.bpf_host_run_checked.Goals as goal

pub returns-clause-ends : goal.returns-clause-ends
returns-clause-ends c = λ yes.
    let is : c.run_checked.result ≡ pos 1 = search rules in
    c.run_checked.ensures.ends is
