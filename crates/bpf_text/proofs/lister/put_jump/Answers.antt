use Rattle.std.proofs.lemmas.Int.{to_z-of_z}
use Rattle.bpf_text.proofs.PutLemmas.{puts_more}
use Rattle.bpf_text.proofs.lister.put_jump.Goals as goal

pub returns : goal.returns
returns c =
    let distance_put = simp (to_z-of_z, c.ranges.off) at c.distance.ensures in
    puts_more _ _ _ _ _ c.put_text.ensures (puts_more _ _ _ _ _ distance_put c.put_text-2.ensures)
