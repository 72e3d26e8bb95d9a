use Rattle.std.proofs.lemmas.Int.{to_z-of_z}
use Rattle.bpf_text.proofs.PutLemmas.{puts_more}
use Rattle.bpf_text.proofs.lister.put_branch.Goals as goal

pub returns : goal.returns
returns c =
    let distance_put = simp (to_z-of_z, c.ranges.off) at c.near_distance.ensures in
    puts_more _ _ _ _ _ c.put_text.ensures (puts_more _ _ _ _ _ c.register.ensures (puts_more _ _ _ _ _ c.put_text-2.ensures (puts_more _ _ _ _ _ c.spelled.ensures (puts_more _ _ _ _ _ c.put_text-3.ensures (puts_more _ _ _ _ _ c.operand.ensures (puts_more _ _ _ _ _ c.put_text-4.ensures (puts_more _ _ _ _ _ distance_put c.put_text-5.ensures)))))))
