use Rattle.bpf_c.proofs.SaysLemmas.{says_more, says_of}
use Rattle.bpf_c.proofs.memory.put_atomic.Goals as goal

pub returns : goal.returns
returns g c = says_more (says_of c.atomic_word.ensures c.put.ensures) (says_more (says_of c.size_word.ensures c.put-2.ensures) (says_more (says_of c.order_word.ensures c.put-3.ensures) (says_more c.put_place.ensures (says_more c.put-4.ensures (says_more c.put_register.ensures c.put-5.ensures)))))
