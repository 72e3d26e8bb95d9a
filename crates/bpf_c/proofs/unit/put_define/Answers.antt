use Rattle.bpf_c.proofs.SaysLemmas.{says_more}
use Rattle.bpf_c.proofs.unit.put_define.Goals as goal

pub returns : goal.returns
returns g c = says_more c.put.ensures (says_more c.put-2.ensures (says_more c.put-3.ensures (says_more c.number.ensures c.put-4.ensures)))
