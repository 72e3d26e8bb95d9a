use Rattle.bpf_c.proofs.SaysLemmas.{says_more}
use Rattle.bpf_c.proofs.unit.put_defines.Goals as goal

pub returns : goal.returns
returns g c = says_more c.put_define.ensures (says_more c.put_define-2.ensures c.put_define-3.ensures)
