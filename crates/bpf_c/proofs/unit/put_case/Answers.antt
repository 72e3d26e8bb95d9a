use Rattle.bpf_c.proofs.SaysLemmas.{says_more}
use Rattle.bpf_c.proofs.unit.put_case.Goals as goal

pub returns : goal.returns
returns g c = says_more c.put.ensures (says_more c.number.ensures (says_more c.put-2.ensures (says_more c.put-3.ensures (says_more c.put-4.ensures (says_more c.number-2.ensures c.put-5.ensures)))))
