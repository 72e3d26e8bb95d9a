use Rattle.bpf_c.proofs.SaysLemmas.{says_more, says_of}
use Rattle.bpf_c.proofs.statement.put_swap.Goals as goal

pub returns : goal.returns
returns g c = says_more (says_of c.swap_word.ensures c.put.ensures) (says_more (says_of c.bits_word.ensures c.put-2.ensures) (says_more c.put_register.ensures c.put-3.ensures))
