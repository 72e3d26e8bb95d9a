use Rattle.bpf_c.proofs.SaysLemmas.{says_more, says_of}
use Rattle.bpf_c.proofs.statement.put_alu.Goals as goal

pub returns : goal.returns
returns g c = says_more (says_of c.alu_word.ensures c.put.ensures) (says_more (says_of c.width_word.ensures c.put-2.ensures) (says_more c.put_register.ensures (says_more c.put-3.ensures (says_more c.put_operand.ensures c.put-4.ensures))))
