use Rattle.bpf_num.specs.Word.{sign_extended}
use Rattle.bpf_num.specs.Tristate.{tristate}
use Rattle.bpf_num.specs.Laws.MovedLaws.{moved_is_tristate, sign_extended_moves}
use Rattle.bpf_num.proofs.known_bits.KnownBitsWordDomain.sign_extend.Goals as goal

pub invariant_of-result : goal.invariant_of-result
invariant_of-result c =
    rw (c.extend.ensures, c.extend-2.ensures)
    (moved_is_tristate (sign_extended c.args.from) (tristate c.self.inside.value c.self.inside.mask) (sign_extended_moves c.args.from) c.self.invariant)
