use Rattle.bpf_num.specs.Word.{reversed}
use Rattle.bpf_num.specs.Tristate.{tristate}
use Rattle.bpf_num.specs.Laws.MovedLaws.{moved_is_tristate, reversed_moves}
use Rattle.bpf_num.proofs.known_bits.KnownBitsWordDomain.swap.Goals as goal

pub invariant_of-result : goal.invariant_of-result
invariant_of-result c =
    rw (c.swap.ensures, c.swap-2.ensures)
    (moved_is_tristate (reversed c.args.size) (tristate c.self.inside.value c.self.inside.mask) (reversed_moves c.args.size) c.self.invariant)
