use Rattle.bpf_c.proofs.SaysLemmas.{says_more, says_of}
use Rattle.bpf_c.proofs.unit.put_part.Goals as goal

pub returns : goal.returns
returns g c = says_more (says_of c.part_word.ensures c.put.ensures) (says_more c.put-2.ensures (says_more c.put-3.ensures (says_more c.number.ensures (says_more c.put-4.ensures (says_more c.put_entrances.ensures (says_more c.put-5.ensures (says_more c.put_part_lines.ensures (says_more c.put-6.ensures (says_more c.number-2.ensures c.put-7.ensures)))))))))
