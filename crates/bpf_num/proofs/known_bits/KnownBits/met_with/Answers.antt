use Rattle.bpf_num.specs.Tristate.{tristate}
use Rattle.bpf_num.proofs.Parts.{meet_is_tristate}
use Rattle.bpf_num.proofs.known_bits.KnownBits.met_with.Goals as goal

pub invariant_of-result : goal.invariant_of-result
invariant_of-result c =
    meet_is_tristate (tristate c.self.inside.value c.self.inside.mask) (tristate c.other.inside.value c.other.inside.mask) c.self.invariant c.other.invariant
