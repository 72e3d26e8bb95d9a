use Rattle.bpf_num.specs.Tristate.{tristate}
use Rattle.bpf_num.proofs.Parts.{clearing_is_tristate}
use Rattle.bpf_num.proofs.known_bits.KnownBits.clearing.Goals as goal

pub invariant_of-result : goal.invariant_of-result
invariant_of-result c = clearing_is_tristate c.args.number (tristate c.self.inside.value c.self.inside.mask) c.ranges.number.fits c.self.invariant
