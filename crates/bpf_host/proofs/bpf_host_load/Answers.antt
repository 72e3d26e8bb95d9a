use Rattle.std.proofs.Common.{◌≡◌, ◌⊎◌, pos, negsuc, rules}
use Rattle.bpf_host.proofs.bpf_host_load.Goals as goal

pub returns-clause-yes : goal.returns-clause-yes
returns-clause-yes c = λ which.
    let is : (c.load.result ≡ pos 1) ⊎ (c.load.result ≡ negsuc 3) = search rules in
    c.load.ensures.yes is

pub returns-clause-promised : goal.returns-clause-promised
returns-clause-promised c = λ which.
    let is : (c.load.result ≡ pos 1) ⊎ (c.load.result ≡ negsuc 3) = search rules in
    c.load.ensures.promised is

pub returns-clause-accepts : goal.returns-clause-accepts
returns-clause-accepts c = λ d few long certifies paid.
    let told = c.load.ensures.accepts d few long certifies paid in
    search (rules, told)

pub returns-clause-unpaid : goal.returns-clause-unpaid
returns-clause-unpaid c = λ d few long certifies over.
    let told = c.load.ensures.unpaid d few long certifies over in
    search (rules, told)
