use Rattle.std.proofs.Common.{◌≡◌, pos, rules}
use Rattle.bpf_host.proofs.bpf_host_follows.Goals as goal

pub returns-clause-yes : goal.returns-clause-yes
returns-clause-yes c = λ yes.
    let is : c.follows.result ≡ pos 1 = search rules in
    c.follows.ensures.yes is

pub returns-clause-no : goal.returns-clause-no
returns-clause-no c = λ no.
    let is : c.follows.result ≡ pos 0 = search rules in
    c.follows.ensures.no is
