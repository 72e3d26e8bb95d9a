use Rattle.bpf_c.proofs.SaysLemmas.{says_more}
use Rattle.bpf_c.proofs.statement.put_wide.Goals as goal

pub returns : goal.returns
returns g c = says_more c.put.ensures (says_more c.put_register.ensures (says_more c.put-2.ensures (says_more c.wide.ensures c.put-3.ensures)))
