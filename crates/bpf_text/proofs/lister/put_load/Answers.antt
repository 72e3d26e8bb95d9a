use Rattle.std.proofs.lemmas.Int.{to_z-of_z}
use Rattle.bpf_text.proofs.PutLemmas.{puts_more, place_then}
use Rattle.bpf_text.proofs.lister.put_load.Goals as goal

pub returns : goal.returns
returns c =
    let place_put = simp (to_z-of_z, c.ranges.off) at c.put_memory_operand.ensures in
    puts_more _ _ _ _ _ c.register.ensures (puts_more _ _ _ _ _ c.put_text.ensures (place_then _ _ _ c.args.memory c.args.src c.args.off _ place_put c.put_text-2.ensures))
