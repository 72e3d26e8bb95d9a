use Rattle.bpf_num.specs.Tristate.{tristate}
use Rattle.bpf_num.proofs.Parts.{has_bits_iff}
use Rattle.bpf_num.proofs.known_bits.KnownBitsWordDomain.contains.Goals as goal

pub returns : goal.returns
returns c = rw (← c.self.view_is) (has_bits_iff (tristate c.self.inside.value c.self.inside.mask) c.args.number c.self.invariant c.ranges.number.fits)
