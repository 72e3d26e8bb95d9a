use Rattle.bpf_c.proofs.SaysLemmas.{says_more, says_of}
use Rattle.bpf_c.proofs.statement.put_neg.Goals as goal

pub returns : goal.returns
returns g c = says_more c.put.ensures (says_more (says_of c.width_word.ensures c.put-2.ensures) (says_more c.put_register.ensures c.put-3.ensures))
