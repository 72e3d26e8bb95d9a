use Rattle.std.proofs.lemmas.Int.{to_z-of_z}
use Rattle.bpf_text.specs.declared.spelling.Memory.TheVariants.{Unsigned}
use Rattle.bpf_text.proofs.PutLemmas.{puts_more, place_then}
use Rattle.bpf_text.proofs.lister.put_store.Goals as goal

pub returns : goal.returns
returns c =
    let place_put = simp (to_z-of_z, c.ranges.off) at c.put_memory_operand.ensures in
    place_then _ _ _ (Unsigned c.args.size) c.args.dst c.args.off _ place_put (puts_more _ _ _ _ _ c.put_text.ensures (puts_more _ _ _ _ _ c.operand.ensures c.put_text-2.ensures))
