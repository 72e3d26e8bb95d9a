use Rattle.std.proofs.lemmas.Int.{to_z-of_z}
use Rattle.bpf_text.proofs.PutLemmas.{puts_more}
use Rattle.bpf_text.proofs.lister.put_memory_operand.Goals as goal

pub returns : goal.returns
returns c =
    let offset_put = simp (to_z-of_z, c.ranges.off) at c.offset.ensures in
    puts_more _ _ _ _ _ c.put_text.ensures (puts_more _ _ _ _ _ c.spelled.ensures (puts_more _ _ _ _ _ c.put_text-2.ensures (puts_more _ _ _ _ _ c.register.ensures (puts_more _ _ _ _ _ c.put_text-3.ensures offset_put))))
