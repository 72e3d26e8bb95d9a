use Rattle.std.proofs.lemmas.Int.{to_z-of_z}
use Rattle.bpf_insn.specs.Instruction.{word_size}
use Rattle.bpf_text.specs.declared.spelling.Memory.TheVariants.{Unsigned}
use Rattle.bpf_text.proofs.PutLemmas.{puts_more, place_then}
use Rattle.bpf_text.proofs.lister.put_atomic.Goals as goal

pub returns : goal.returns
returns c =
    let place_put = simp (to_z-of_z, c.ranges.off) at c.put_memory_operand.ensures in
    let sized_put = rw c.of_word.ensures at place_put in
    puts_more _ _ _ _ _ c.put_text.ensures (puts_more _ _ _ _ _ c.put_atomic_word.ensures (place_then _ _ _ (Unsigned (word_size c.args.wide)) c.args.dst c.args.off _ sized_put (puts_more _ _ _ _ _ c.put_atomic_sign.ensures (puts_more _ _ _ _ _ c.register.ensures c.put_text-2.ensures))))
