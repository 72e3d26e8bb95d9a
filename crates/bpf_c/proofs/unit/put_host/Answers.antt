use Rattle.bpf_c.proofs.SaysLemmas.{says_more}
use Rattle.bpf_c.proofs.unit.put_host.Goals as goal

pub returns : goal.returns
returns g c = says_more c.put.ensures (says_more c.put-2.ensures (says_more c.put-3.ensures (says_more c.put-4.ensures (says_more c.put-5.ensures (says_more c.put-6.ensures (says_more c.put-7.ensures (says_more c.put-8.ensures (says_more c.put-9.ensures (says_more c.put-10.ensures (says_more c.put-11.ensures (says_more c.put-12.ensures (says_more c.put-13.ensures (says_more c.put-14.ensures c.put-15.ensures)))))))))))))
